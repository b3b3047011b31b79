use Rattle.std.proofs.Common.{◌≡◌, ◌+◌, ◌++◌, ◌≤◌, IsSome, All, length, map, reverse, vec_len, vec_capacity}
use Rattle.proxy_serving.specs.Workers.{split_from}
use Rattle.proxy_serving.proofs.hiring.hire_forwarders.Given as goal

abbrev pub invariant-loop-kit : goal.invariant-loop-kit
invariant-loop-kit g l = (l.pass.of ≡ l.initial.pass.of) × IsSome l.pass.others × (split_from l.pass ≡ split_from l.initial.pass)
    × All (λ f. f.routes.pass ≡ split_from l.initial.pass) l.forwarders.items
    × (l.initial.kits.items ≡ l.kits.items ++ reverse (map (λ f. f.kit) l.forwarders.items))
    × (length l.forwarders.items + length l.kits.items ≡ length l.initial.kits.items)
    × (vec_len l.forwarders + vec_len l.kits ≤ vec_capacity l.forwarders)
    × (vec_capacity l.kits ≡ vec_capacity l.initial.kits)

abbrev pub decreases-loop-kit : goal.decreases-loop-kit
decreases-loop-kit g l = vec_len l.kits
