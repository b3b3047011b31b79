use Rattle.scope_meet.proofs.Rows.{Left}
use Rattle.scope_meet.proofs.inside.contained.Given as goal

abbrev pub invariant-loop-action : goal.invariant-loop-action
invariant-loop-action g l = Left (g.M.Members.context l.members) l.a l.b l.action-iterator
