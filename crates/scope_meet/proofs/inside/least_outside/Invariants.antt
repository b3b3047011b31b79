use Rattle.std.proofs.Common.{◌≡◌, None}
use Rattle.std.specs.FinMap as map
use Rattle.scope_meet.proofs.Contained.{holds_whole}
use Rattle.scope_meet.proofs.Least.{least_from}
use Rattle.scope_meet.proofs.inside.least_outside.Given as goal

abbrev pub invariant-loop-filter : goal.invariant-loop-filter
invariant-loop-filter g l = let held = holds_whole (g.M.Members.context l.members) l.b l.action in least_from held l.least l.filter-iterator ≡ least_from held None (map.keys l.filters)
