use Rattle.scope_expand.proofs.Joins.{Joining}
use Rattle.scope_expand.proofs.add_all.Given as goal

-- what is there, and what is still to be added, is all
abbrev pub invariant-loop-action : goal.invariant-loop-action
invariant-loop-action l = Joining l.fn.into l.other l.action-iterator l.into
