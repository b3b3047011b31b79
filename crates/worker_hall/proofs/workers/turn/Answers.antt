use Rattle.worker_hall.proofs.ShiftLemmas.{shift_push}
use Rattle.worker_hall.proofs.workers.turn.Goals as goal

pub returns-clause-shift : goal.returns-clause-shift
returns-clause-shift g c =
    let worker = c.args.worker.now in
    let served = c.serve in
    shift_push g.L.Listener.are_sides g.S.Serves.served worker.lent.value worker.server served.new.server worker.tally served.new.self
    c.requires.shift served.ensures.once served.ensures.counted
