-- Which fields of a user, a group and a service stand in a reply, and with which values: a field stands there exactly where its action
-- is allowed on the object.
use Rattle.std.specs.Prelude.{ℕ, Bool, true, false, ◌&&◌, ◌||◌, List, [], ◌∷◌, ◌++◌, map, filter, codes, Option, Some, None}
use Rattle.hub_kit.specs.declared.names.ServerKey.{ServerKey}
use Rattle.scope_names.specs.declared.action.Action.{Action}
use Rattle.scope_names.specs.declared.action.Action.TheVariants.{AccessServers, ReadUsersName, ReadUsers, ReadUsersGroups}
use Rattle.scope_names.specs.declared.action.Action.TheVariants.{ReadUsersActivity, ReadRolesUsers, ReadServers, ReadGroupsName, ReadGroups}
use Rattle.scope_names.specs.declared.action.Action.TheVariants.{ReadRolesGroups, ReadServicesName, ReadRolesServices}
use Rattle.scope_filters.specs.declared.object.Object.{Object}
use Rattle.scope_filters.specs.declared.object.Object.TheVariants as Ob
use Rattle.scope_filters.specs.declared.scope.RawScope.{RawScope}
use Rattle.scope_filters.specs.Scopes.{scope_text}
use Rattle.hub_rows.specs.declared.records.Group.{Group}
use Rattle.hub_view.specs.Json.{Json, Member, line, lines, truth, maybe, pairs, member}
use Rattle.hub_view.specs.Servers.{at, is_live, server_body}
use Rattle.hub_view.specs.declared.facts.ServerFacts.{ServerFacts}
use Rattle.hub_view.specs.declared.facts.UserFacts.{UserFacts}

-- which action on which object is allowed
abbrev pub Rights : Type 0
Rights = Action → Object → Bool

-- ---- the servers of a user: exactly the live ones that may be read

abbrev pub is_shown : Rights → ServerFacts → Bool
is_shown may s = is_live s.life.phase && may ReadServers (Ob.Server s.row.key)

abbrev pub named_server : ServerFacts → Member
named_server s = (s.row.key.server, server_body s)

abbrev pub shown_servers : Rights → List ServerFacts → List Member
shown_servers may servers = map named_server (filter (is_shown may) servers)

abbrev pub has_any : List Member → Bool
has_any [] = false
has_any (m ∷ ms) = true

-- the key stands there where a server is shown or the user's servers may be read
abbrev pub servers_member : Rights → UserFacts → List Member
servers_member may u =
    member (has_any (shown_servers may u.servers) || may ReadServers (Ob.User u.user.name)) (codes "servers")
    (pairs (shown_servers may u.servers))

-- ---- users

-- the fields but for the servers. Where the user is named in any case, as in the identity, kind and name need no right
abbrev pub user_members : Rights → Bool → UserFacts → List Member
user_members may named u =
    member (may ReadUsers (Ob.User u.user.name)) (codes "admin") (truth u.user.admin)
    ++ member (may ReadUsers (Ob.User u.user.name)) (codes "created") (at u.user.created)
    ++ member (may ReadUsersGroups (Ob.User u.user.name)) (codes "groups") (lines u.groups)
    ++ member (named || may ReadUsersName (Ob.User u.user.name)) (codes "kind") (line (codes "user"))
    ++ member (may ReadUsersActivity (Ob.User u.user.name)) (codes "last_activity") (maybe at u.user.last_activity)
    ++ member (named || may ReadUsersName (Ob.User u.user.name)) (codes "name") (line u.user.name)
    ++ member (may ReadRolesUsers (Ob.User u.user.name)) (codes "roles") (lines u.roles)

abbrev pub user_body : Rights → UserFacts → Json
user_body may u = pairs (user_members may false u ++ servers_member may u)

-- ---- groups and services, with the names of the roles that they hold

abbrev pub group_body : Rights → Group → List (List ℕ) → Json
group_body may g roles = pairs (
    member (may ReadGroupsName (Ob.Group g.name)) (codes "kind") (line (codes "group"))
    ++ member (may ReadGroupsName (Ob.Group g.name)) (codes "name") (line g.name)
    ++ member (may ReadRolesGroups (Ob.Group g.name)) (codes "roles") (lines roles)
    ++ member (may ReadGroups (Ob.Group g.name)) (codes "users") (lines g.users))

abbrev pub service_members : Rights → Bool → List ℕ → List (List ℕ) → List Member
service_members may named v roles =
    member (named || may ReadServicesName (Ob.Service v)) (codes "kind") (line (codes "service"))
    ++ member (named || may ReadServicesName (Ob.Service v)) (codes "name") (line v)
    ++ member (may ReadRolesServices (Ob.Service v)) (codes "roles") (lines roles)

abbrev pub service_body : Rights → List ℕ → List (List ℕ) → Json
service_body may v roles = pairs (service_members may false v roles)

-- ---- the identity: the caller's user or service, named in any case, with the scopes of the token as they are kept

abbrev pub scope_lines : List RawScope → Json
scope_lines scopes = lines (map scope_text scopes)

abbrev pub scopes_member : List RawScope → List Member
scopes_member scopes = member true (codes "scopes") (scope_lines scopes)

-- where a server is asked for: whether the caller may enter it
abbrev pub access_member : Rights → Option ServerKey → List Member
access_member may None = []
access_member may (Some k) = member true (codes "access") (truth (may AccessServers (Ob.Server k)))

abbrev pub user_identity : Rights → UserFacts → List RawScope → Option ServerKey → Json
user_identity may u scopes server = pairs (access_member may server ++ user_members may true u ++ scopes_member scopes ++ servers_member may
    u)

abbrev pub service_identity : Rights → List ℕ → List (List ℕ) → List RawScope → Option ServerKey → Json
service_identity may v roles scopes server = pairs (access_member may server ++ service_members may true v roles ++ scopes_member scopes)
