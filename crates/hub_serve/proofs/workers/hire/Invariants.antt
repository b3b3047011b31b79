use Rattle.std.proofs.Common.{[], ◌≡◌, ◌+◌, ◌++◌, ◌≤◌, All, Some, length, map, reverse, vec_len, vec_capacity}
use Rattle.desk.specs.Seats.{only}
use Rattle.keeper.specs.Pasts.{entries_of}
use Rattle.hub_serve.specs.Shifts.{split_from}
use Rattle.hub_serve.proofs.workers.hire.Given as goal

abbrev pub invariant-loop-kit : goal.invariant-loop-kit
invariant-loop-kit g l =
    (l.pass ≡ record l.initial.pass { others = Some (length l.workers.items); alone = only (Some (length l.workers.items)) })
    × All (λ w. (w.pass ≡ split_from l.initial.pass) × (entries_of w.shift ≡ []) × (w.kit ≡ w.lent.value)) l.workers.items
    × (l.initial.kits.items ≡ l.kits.items ++ reverse (map (λ w. w.lent.value) l.workers.items))
    × (l.all.parts + length l.workers.items ≡ l.initial.all.parts) × (l.all.amount ≡ 0)
    × (length l.workers.items + length l.kits.items ≡ length l.initial.kits.items)
    × (vec_len l.workers + vec_len l.kits ≤ vec_capacity l.workers)
    × (vec_capacity l.kits ≡ vec_capacity l.initial.kits)

abbrev pub decreases-loop-kit : goal.decreases-loop-kit
decreases-loop-kit g l = vec_len l.kits
