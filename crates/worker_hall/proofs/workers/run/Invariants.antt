use Rattle.std.proofs.Common.{◌≡◌, All, map}
use Rattle.worker_hall.specs.Shifts.{IsShift}
use Rattle.worker_hall.proofs.workers.run.Given as goal

abbrev pub invariant-loop : goal.invariant-loop
invariant-loop g l = All (λ w. IsShift g.L.Listener.are_sides g.S.Serves.served w.lent.value w.tally w.server) l.workers
    × (map (λ w. w.lent.value) l.workers ≡ map (λ w. w.lent.value) l.initial.workers)
    × (goal.iterator-loop g).can_next l.iterator' × (goal.iterator-loop g).is_finite l.iterator'
