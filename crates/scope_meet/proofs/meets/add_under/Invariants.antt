use Rattle.std.proofs.Common.{take}
use Rattle.scope_meet.proofs.GrantMeets.{Under}
use Rattle.scope_meet.proofs.meets.add_under.Given as goal

abbrev pub invariant-loop-filter : goal.invariant-loop-filter
invariant-loop-filter l = Under l.fn.both l.action (take l.filter-index l.filters) l.both
