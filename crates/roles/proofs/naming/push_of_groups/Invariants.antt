use Rattle.std.proofs.Common.{◌≡◌, ◌++◌, take, flat_map}
use Rattle.hub_tables.specs.Lookups.{roles_naming_group}
use Rattle.roles.proofs.naming.push_of_groups.Given as goal

abbrev pub invariant-loop-group : goal.invariant-loop-group
invariant-loop-group l = l.names.items ≡ l.fn.names.items ++ flat_map (roles_naming_group l.t) (take l.group-index l.groups)
