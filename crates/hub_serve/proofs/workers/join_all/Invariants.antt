use Rattle.std.proofs.Common.{◌≡◌, ◌+◌, ◌++◌, ◌≤◌, All, Some, length, map, reverse, vec_len, vec_capacity}
use mathlib.Core.List.{IsPrefix}
use Rattle.desk.specs.Seats.{only}
use Rattle.keeper.specs.Pasts.{entries_of}
use Rattle.hub_run.specs.Connections.{sink_told, source_told}
use Rattle.hub_serve.specs.Shifts.{AreOf, IsShift, IsWhole, all_own, count_of, kit_after, kit_before, shifts_of, split_from}
use Rattle.hub_serve.proofs.workers.join_all.Given as goal

abbrev pub invariant-loop-worker : goal.invariant-loop-worker
invariant-loop-worker g l = (l.pass.of ≡ l.initial.pass.of) × (l.pass.base ≡ l.initial.pass.base) × IsPrefix l.initial.pass.seen l.pass.seen × All (λ w. w.pass.of ≡ l.desk) l.workers.items
    × (l.taken.total ≡ l.initial.taken.total) × (l.all.amount ≡ l.tally.count) × (l.all.parts + vec_len l.workers ≡ g.N.Ledger.parts)
    × (l.initial.pass.faults ≤ l.pass.faults) × (l.pass.others ≡ Some (vec_len l.workers)) × (l.pass.alone ≡ only l.pass.others)
    × All (λ w. IsShift g.L.Listener.are_sides g.Q.Serves.ends (source_told g.L.In.Source) (sink_told g.L.Out.Sink) (split_from l.first.value) w.lent.value (entries_of w.shift) w.pass w.kit) l.workers.items
    × All (λ cs. IsWhole g.L.Listener.are_sides g.Q.Serves.ends (source_told g.L.In.Source) (sink_told g.L.Out.Sink) (split_from l.first.value) cs) (shifts_of l.tally)
    × (l.pass.mine ≡ all_own (split_from l.first.value) l.initial.pass.mine (shifts_of l.tally))
    × (count_of (shifts_of l.tally) ≡ l.tally.count)
    × AreOf kit_before kit_after (reverse (map (λ w. w.lent.value) l.initial.workers.items)) (shifts_of l.tally)
    (l.kits.items ++ reverse (map (λ w. w.lent.value) l.workers.items))
    × (length (shifts_of l.tally) ≡ length l.kits.items)
    × (vec_len l.kits + vec_len l.workers ≤ vec_capacity l.kits)

abbrev pub decreases-loop-worker : goal.decreases-loop-worker
decreases-loop-worker g l = vec_len l.workers
