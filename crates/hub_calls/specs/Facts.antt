-- What bodies show of a state.
use Rattle.std.specs.Prelude.{ℕ, Bool, true, false, List, [], ◌∷◌, ◌++◌, map, filter, codes, Option, Some, None}
use Rattle.std.specs.FinMap.{get, values}
use Rattle.hub_kit.specs.KeyOrder.{name_cmp}
use Rattle.keyed_rows.specs.Sorted.{in_order}
use Rattle.scope_names.specs.declared.action.Action.TheVariants.{ListUsers, ListGroups, ListServices}
use Rattle.scope_filters.specs.Contexts.{same}
use Rattle.scope_filters.specs.declared.object.Object.TheVariants as Ob
use Rattle.scope_filters.specs.declared.holder.Owner.{Owner}
use Rattle.scope_filters.specs.declared.holder.Owner.TheVariants as Own
use Rattle.hub_rows.specs.declared.records.User.{User}
use Rattle.hub_rows.specs.declared.records.Group.{Group}
use Rattle.hub_rows.specs.declared.records.Role.{Role}
use Rattle.hub_rows.specs.declared.records.ServerRow.{ServerRow}
use Rattle.hub_rows.specs.declared.records.Service.{Service}
use Rattle.hub_tables.specs.State.{State}
use Rattle.hub_tables.specs.Lookups.{groups_of, roles_naming_group, roles_naming_service}
use Rattle.roles.specs.Rights.{holds_role}
use Rattle.hub_view.specs.Json.{Json}
use Rattle.hub_view.specs.Fields as view
use Rattle.hub_view.specs.Records.{role_body}
use Rattle.hub_view.specs.declared.facts.ServerFacts.{ServerFacts}
use Rattle.hub_view.specs.declared.facts.UserFacts.{UserFacts}
use Rattle.hub_machine.specs.State.{Hub, Lives, life_of}

-- the names of the roles that an owner holds by their rows, in order
abbrev pub roles_among : State → Owner → List Role → List (List ℕ)
roles_among t w roles = map (λ r. r.name) (filter (holds_role t w) roles)

-- the fixed roles of a user
abbrev pub fixed_roles : Bool → List (List ℕ)
fixed_roles true = codes "admin" ∷ codes "user" ∷ []
fixed_roles false = codes "user" ∷ []

-- the names of the roles that a user holds, in order; a service and a group hold those that name them
abbrev pub roles_of_user : State → User → List (List ℕ)
roles_of_user t u = in_order name_cmp (fixed_roles u.admin ++ roles_among t (Own.User u.name) (values t.roles))

-- a server and where it stands, if it is kept
abbrev pub server_facts : Lives → ServerRow → ServerFacts
server_facts lives r = record { row = r; life = life_of lives r.key }

abbrev pub facts_at : Lives → Option ServerRow → List ServerFacts
facts_at lives None = []
facts_at lives (Some r) = server_facts lives r ∷ []

-- the servers of a user, and where they stand
abbrev pub servers_among : Lives → List ℕ → List ServerRow → List ServerFacts
servers_among lives u rows = map (server_facts lives) (filter (λ r. same r.key.user u) rows)

abbrev pub servers_of : Hub → List ℕ → List ServerFacts
servers_of s u = servers_among s.lives u (values s.tables.servers)

abbrev pub facts_of : Hub → User → UserFacts
facts_of s u = record {
  user = u;
  groups = groups_of s.tables u.name;
  roles = roles_of_user s.tables u;
  servers = servers_of s u.name;
}

-- ---- the bodies of what is kept, and of those of a list that the caller may see

abbrev pub user_body : view.Rights → Hub → User → Json
user_body may s u = view.user_body may (facts_of s u)

abbrev pub users_shown : view.Rights → Hub → List User → List Json
users_shown may s users = map (user_body may s) (filter (λ u. may ListUsers (Ob.User u.name)) users)

abbrev pub body_of_user : view.Rights → Hub → Option User → Json
body_of_user may s None = []
body_of_user may s (Some u) = user_body may s u

abbrev pub user_at : view.Rights → Hub → List ℕ → Json
user_at may s u = body_of_user may s (get s.tables.users u)

abbrev pub group_body : view.Rights → Hub → Group → Json
group_body may s g = view.group_body may g (roles_naming_group s.tables g.name)

abbrev pub groups_shown : view.Rights → Hub → List Group → List Json
groups_shown may s groups = map (group_body may s) (filter (λ g. may ListGroups (Ob.Group g.name)) groups)

abbrev pub body_of_group : view.Rights → Hub → Option Group → Json
body_of_group may s None = []
body_of_group may s (Some g) = group_body may s g

abbrev pub group_at : view.Rights → Hub → List ℕ → Json
group_at may s g = body_of_group may s (get s.tables.groups g)

abbrev pub service_body : view.Rights → Hub → List ℕ → Json
service_body may s v = view.service_body may v (roles_naming_service s.tables v)

abbrev pub services_shown : view.Rights → Hub → List Service → List Json
services_shown may s services = map (λ v. service_body may s v.name) (filter (λ v. may ListServices (Ob.Service v.name)) services)

abbrev pub body_of_role : Option Role → Json
body_of_role None = []
body_of_role (Some r) = role_body r

abbrev pub role_at : Hub → List ℕ → Json
role_at s r = body_of_role (get s.tables.roles r)
