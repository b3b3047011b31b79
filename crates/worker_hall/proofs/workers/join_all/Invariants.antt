use Rattle.std.proofs.Common.{◌≡◌, ◌+◌, ◌≤◌, All, map, reverse, vec_len, vec_capacity}
use Rattle.worker_hall.specs.Shifts.{IsShift}
use Rattle.worker_hall.proofs.ShiftLemmas.{Joined}
use Rattle.worker_hall.proofs.workers.join_all.Given as goal

abbrev pub invariant-loop-worker : goal.invariant-loop-worker
invariant-loop-worker g l =
    (l.taken.total ≡ l.initial.taken.total) × (l.all.amount ≡ l.tally) × (l.all.parts + vec_len l.workers ≡ g.N.Ledger.parts)
    × All (λ w. IsShift g.L.Listener.are_sides g.S.Serves.served w.lent.value w.tally w.server) l.workers.items
    × Joined g.L.Listener.are_sides g.S.Serves.served (λ w. w.lent.value) (reverse (map (λ w. w.lent.value) l.initial.workers.items)) l.servers.items
    l.workers.items l.tally
    × (vec_len l.servers + vec_len l.workers ≤ vec_capacity l.servers)

abbrev pub decreases-loop-worker : goal.decreases-loop-worker
decreases-loop-worker g l = vec_len l.workers
