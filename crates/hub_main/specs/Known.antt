-- Whether the names in the lists of a configuration are kept or configured, and which is the first that is neither.
use Rattle.std.specs.Prelude.{ℕ, ◌==◌, Bool, not, List, [], ◌∷◌, ◌++◌, map, Option, None, if◌then◌else◌}
use Rattle.std.specs.List.{filter_map, find, flat_map, list_all}
use Rattle.std.specs.Result.{result_ok}
use Rattle.hub_kit.specs.KeyOrder.{name_cmp}
use Rattle.hub_kit.specs.Names.{name_read}
use Rattle.keyed_rows.specs.Sorted.{in_order, is_among}
use Rattle.scope_filters.specs.declared.holder.Owner.{Owner}
use Rattle.scope_filters.specs.declared.holder.Owner.TheVariants as owner
use Rattle.hub_rows.specs.declared.records.Group.{Group}
use Rattle.hub_rows.specs.declared.records.Role.{Role}
use Rattle.hub_opening.specs.declared.config.ConfigToken.{ConfigToken}
use Rattle.hub_opening.specs.declared.config.HubConfig.{HubConfig}
use Rattle.keeper.specs.declared.keeper.Row.{Row}
use Rattle.hub_main.specs.declared.known_names.AnyName.{AnyName}
use Rattle.hub_main.specs.declared.known_names.AnyName.TheVariants.{User, Group as GroupOf, Service}
use Rattle.hub_main.specs.declared.known_names.Names.{Names}

-- ---- the names that are kept or configured

-- the name of a row, if it is of this kind, whatever its text
abbrev pub name_in : (kind : ℕ) → Row → Option (List ℕ)
name_in kind row = if row.kind == kind then result_ok (name_read row.key) else None

-- the names of the rows of a kind, and those that are configured, in order
abbrev pub names_in : (kind : ℕ) → List Row → (configured : List (List ℕ)) → List (List ℕ)
names_in kind kept configured = in_order name_cmp (filter_map (name_in kind) kept ++ configured)

-- the names that are kept or configured, of the three kinds that lists name
abbrev pub names_of : HubConfig → List Row → Names
names_of config kept = record {
  users = names_in 1 kept (map (λ user. user.name) config.users);
  groups = names_in 2 kept (map (λ group. group.name) config.groups);
  services = names_in 3 kept (map (λ service. service.name) config.services);
}

-- ---- the names in lists

-- the members of a configured group
abbrev pub in_group : Group → List AnyName
in_group group = map User group.users

-- those who have a configured role: users, groups and services, in this order
abbrev pub in_role : Role → List AnyName
in_role role = map User role.users ++ (map GroupOf role.groups ++ map Service role.services)

-- the name of an owner, with its kind
abbrev pub owner_name : Owner → AnyName
owner_name (owner.User name) = User name
owner_name (owner.Service name) = Service name

-- whose a configured token is
abbrev pub in_token : ConfigToken → List AnyName
in_token token = owner_name token.owner ∷ []

-- the names in the lists of the groups, then of the roles, and then those of the owners of tokens
abbrev pub listed : HubConfig → List AnyName
listed config = flat_map in_group config.groups ++ (flat_map in_role config.roles ++ flat_map in_token config.tokens)

-- ---- whether they are known

-- the name is among those of its kind
abbrev pub is_known : Names → AnyName → Bool
is_known known (User name) = is_among name_cmp name known.users
is_known known (GroupOf name) = is_among name_cmp name known.groups
is_known known (Service name) = is_among name_cmp name known.services

-- the first of these names that isn't known
abbrev pub first_unknown : (known : Names) → List AnyName → Option AnyName
first_unknown known names = find (λ name. not (is_known known name)) names

-- each name in a list is kept or configured
abbrev pub are_known : HubConfig → List Row → Bool
are_known config kept = list_all (is_known (names_of config kept)) (listed config)

-- the first that is neither
abbrev pub unknown_name : HubConfig → List Row → Option AnyName
unknown_name config kept = first_unknown (names_of config kept) (listed config)
