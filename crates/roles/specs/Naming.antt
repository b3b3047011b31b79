-- The roles that name an owner, as the look-ups find them.
use Rattle.std.specs.Prelude.{ℕ, List, [], ◌++◌, Option, Some, None}
use Rattle.std.specs.List.{flat_map}
use Rattle.scope_filters.specs.declared.holder.Owner.{Owner}
use Rattle.scope_filters.specs.declared.holder.Owner.TheVariants as Own
use Rattle.scope_filters.specs.declared.scope.RawScope.{RawScope}
use Rattle.hub_rows.specs.declared.records.Role.{Role}
use Rattle.hub_tables.specs.Lookups.{roles_naming_user, roles_naming_group, roles_naming_service, groups_of}
use Rattle.hub_tables.specs.State.{State}

-- the names of the roles that name the owner, and then those that name a group of the user, group by group
abbrev pub roles_naming : State → Owner → List (List ℕ)
roles_naming t (Own.User u) = roles_naming_user t u ++ flat_map (roles_naming_group t) (groups_of t u)
roles_naming t (Own.Service v) = roles_naming_service t v

-- The scopes of a role, or none where it isn't kept
abbrev pub role_scopes : Option Role → List RawScope
role_scopes None = []
role_scopes (Some role) = role.scopes
