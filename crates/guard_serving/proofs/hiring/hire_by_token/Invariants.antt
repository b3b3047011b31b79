use Rattle.std.proofs.Common.{◌≡◌, ◌+◌, ◌++◌, ◌≤◌, All, length, map, reverse, vec_len, vec_capacity}
use Rattle.guard_serving.proofs.hiring.hire_by_token.Given as goal

abbrev pub invariant-loop-kit : goal.invariant-loop-kit
invariant-loop-kit g l =
    All (λ x. (x.key.now ≡ l.key) × (x.target.now ≡ l.target)) l.guards.items
    × (l.initial.kits.items ≡ l.kits.items ++ reverse (map (λ x. x.kit) l.guards.items))
    × (length l.guards.items + length l.kits.items ≡ length l.initial.kits.items)
    × (vec_len l.guards + vec_len l.kits ≤ vec_capacity l.guards)
    × (vec_capacity l.kits ≡ vec_capacity l.initial.kits)

abbrev pub decreases-loop-kit : goal.decreases-loop-kit
decreases-loop-kit g l = vec_len l.kits
