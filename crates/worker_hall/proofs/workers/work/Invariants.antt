use Rattle.std.proofs.Common.{◌≡◌}
use Rattle.worker_hall.specs.Shifts.{IsShift}
use Rattle.worker_hall.proofs.workers.work.Given as goal

abbrev pub invariant-loop : goal.invariant-loop
invariant-loop g l = IsShift g.L.Listener.are_sides g.S.Serves.served l.worker.lent.value l.worker.tally l.worker.server
    × (l.worker.lent.value ≡ l.initial.worker.lent.value)
    × (goal.iterator-loop g).can_next l.iterator' × (goal.iterator-loop g).is_finite l.iterator'
