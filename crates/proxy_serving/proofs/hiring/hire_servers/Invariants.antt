use Rattle.std.proofs.Common.{◌≡◌, ◌+◌, ◌++◌, ◌≤◌, IsSome, All, length, map, reverse, vec_len, vec_capacity}
use Rattle.proxy_serving.specs.Workers.{split_from}
use Rattle.proxy_serving.proofs.hiring.hire_servers.Given as goal

abbrev pub invariant-loop-clock : goal.invariant-loop-clock
invariant-loop-clock g l = (l.pass.of ≡ l.initial.pass.of) × IsSome l.pass.others × (split_from l.pass ≡ split_from l.initial.pass)
    × All (λ s. (s.routes.pass ≡ split_from l.initial.pass) × (s.secret.now ≡ l.secret)) l.servers.items
    × (l.initial.clocks.items ≡ l.clocks.items ++ reverse (map (λ s. s.clock) l.servers.items))
    × (length l.servers.items + length l.clocks.items ≡ length l.initial.clocks.items)
    × (vec_len l.servers + vec_len l.clocks ≤ vec_capacity l.servers)
    × (vec_capacity l.clocks ≡ vec_capacity l.initial.clocks)

abbrev pub decreases-loop-clock : goal.decreases-loop-clock
decreases-loop-clock g l = vec_len l.clocks
