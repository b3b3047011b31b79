use Rattle.std.proofs.Common.{◌≡◌, ◌++◌, drop}
use Rattle.std.specs.List.{flat_map}
use Rattle.scope_meet.specs.Meets.{group_names}
use Rattle.scope_meet.proofs.groups.names_of.Given as goal

abbrev pub invariant-loop-filter : goal.invariant-loop-filter
invariant-loop-filter l = l.names.items ++ flat_map group_names (drop l.filter-index l.filters) ≡ flat_map group_names l.filters
