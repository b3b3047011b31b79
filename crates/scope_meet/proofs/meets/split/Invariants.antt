use Rattle.std.proofs.Common.{◌≡◌, ◌++◌}
use Rattle.std.specs.FinMap as map
use Rattle.scope_meet.proofs.GroupLists.{groups_of, others_of}
use Rattle.scope_meet.proofs.meets.split.Given as goal

abbrev pub invariant-loop-filter : goal.invariant-loop-filter
invariant-loop-filter l =
    (l.groups.items ++ groups_of l.filter-iterator ≡ groups_of (map.keys l.filters)) × (l.others.items ++ others_of l.filter-iterator ≡ others_of (map.keys l.filters))
