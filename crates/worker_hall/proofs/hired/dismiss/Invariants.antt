use Rattle.std.proofs.Common.{◌≡◌, ◌+◌, ◌++◌, ◌≤◌, map, reverse, vec_len, vec_capacity}
use Rattle.worker_hall.proofs.hired.dismiss.Given as goal

abbrev pub invariant-loop-server : goal.invariant-loop-server
invariant-loop-server g l =
    (reverse (map (λ x. g.S.Hired.kit_of x) l.initial.servers.items) ≡ l.kits.items ++ reverse (map (λ x. g.S.Hired.kit_of x) l.servers.items))
    × (vec_len l.kits + vec_len l.servers ≤ vec_capacity l.kits)

abbrev pub decreases-loop-server : goal.decreases-loop-server
decreases-loop-server g l = vec_len l.servers
