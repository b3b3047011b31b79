use Rattle.std.proofs.Common.{◌≡◌}
use Rattle.keeper.specs.Pasts.{entries_of}
use Rattle.hub_run.specs.Connections.{sink_told, source_told}
use Rattle.hub_serve.specs.Shifts.{IsShift, split_from}
use Rattle.hub_serve.proofs.workers.work.Given as goal

abbrev pub invariant-loop : goal.invariant-loop
invariant-loop g l = (l.worker.pass.of ≡ l.desk)
    × IsShift g.L.Listener.are_sides g.Q.Serves.ends (source_told g.L.In.Source) (sink_told g.L.Out.Sink) (split_from l.first.value) l.worker.lent.value (entries_of l.worker.shift) l.worker.pass l.worker.kit
    × (l.worker.lent.value ≡ l.initial.worker.lent.value)
    × (goal.iterator-loop g).can_next l.iterator' × (goal.iterator-loop g).is_finite l.iterator'
