use Rattle.std.proofs.Common.{◌≡◌, ◌++◌}
use Rattle.std.specs.FinMap as map
use Rattle.std.specs.List.{flat_map}
use Rattle.scope_meet.proofs.admitted.named_by.Given as goal

abbrev pub invariant-loop-filter : goal.invariant-loop-filter
invariant-loop-filter g l =
    let named = g.K.Named.named_by l.action (g.M.Members.context l.members) in
    l.names.items ++ flat_map named l.filter-iterator ≡ flat_map named (map.keys l.filters)
