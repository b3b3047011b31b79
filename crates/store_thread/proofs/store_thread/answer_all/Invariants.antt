use Rattle.store_thread.specs.Runs.{WentAt}
use Rattle.store_thread.proofs.store_thread.answer_all.Given as goal

abbrev pub invariant-loop : goal.invariant-loop
invariant-loop g l = let b = g.K.Keeper in WentAt b.Tells b.rows b.is_told b.faults b.Chooses l.initial.store l.end l.store
