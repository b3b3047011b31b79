use Rattle.keeper.specs.Pasts.{entries_of}
use Rattle.hub_run.specs.Connections.{sink_told, source_told}
use Rattle.hub_serve.specs.Shifts.{split_from}
use Rattle.hub_serve.proofs.ShiftLemmas.{shift_push}
use Rattle.hub_serve.proofs.workers.turn.Goals as goal

pub returns-clause-shift : goal.returns-clause-shift
returns-clause-shift g c =
    let worker = c.args.worker.now in
    let served = c.serve-connection in
    shift_push g.L.Listener.are_sides g.Q.Serves.ends (source_told g.L.In.Source) (sink_told g.L.Out.Sink) (split_from c.args.first.now.value) worker.lent.value
    (entries_of worker.shift) worker.pass worker.kit served.result served.new.pass served.new.self c.requires.shift served.ensures.before.0
    served.ensures.before.1 served.ensures.after.0 served.ensures.after.1 served.ensures.served (entries_of c.add.new.self) c.add.ensures
