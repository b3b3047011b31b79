use Rattle.std.proofs.Common.{◌≡◌, All, map}
use Rattle.keeper.specs.Pasts.{entries_of}
use Rattle.hub_run.specs.Connections.{sink_told, source_told}
use Rattle.hub_serve.specs.Shifts.{IsShift, split_from}
use Rattle.hub_serve.proofs.workers.run.Given as goal

abbrev pub invariant-loop : goal.invariant-loop
invariant-loop g l = All (λ w. w.pass.of ≡ l.desk) l.workers
    × All (λ w. IsShift g.L.Listener.are_sides g.Q.Serves.ends (source_told g.L.In.Source) (sink_told g.L.Out.Sink) (split_from l.first.value) w.lent.value (entries_of w.shift) w.pass w.kit) l.workers
    × (map (λ w. w.lent.value) l.workers ≡ map (λ w. w.lent.value) l.initial.workers)
    × (goal.iterator-loop g).can_next l.iterator' × (goal.iterator-loop g).is_finite l.iterator'
