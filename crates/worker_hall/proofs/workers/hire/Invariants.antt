use Rattle.std.proofs.Common.{◌≡◌, ◌+◌, ◌++◌, ◌≤◌, All, length, map, reverse, vec_len, vec_capacity}
use Rattle.worker_hall.proofs.workers.hire.Given as goal

abbrev pub invariant-loop-server : goal.invariant-loop-server
invariant-loop-server g l =
    All (λ w. (w.tally ≡ 0) × (w.server ≡ w.lent.value)) l.workers.items
    × (l.initial.servers.items ≡ l.servers.items ++ reverse (map (λ w. w.lent.value) l.workers.items))
    × (l.all.parts + length l.workers.items ≡ l.initial.all.parts) × (l.all.amount ≡ 0)
    × (length l.workers.items + length l.servers.items ≡ length l.initial.servers.items)
    × (vec_len l.workers + vec_len l.servers ≤ vec_capacity l.workers)
    × (vec_capacity l.servers ≡ vec_capacity l.initial.servers)

abbrev pub decreases-loop-server : goal.decreases-loop-server
decreases-loop-server g l = vec_len l.servers
