use Rattle.std.proofs.Common.{refl}
use Rattle.worker_hall.proofs.ShiftLemmas.{served_none}
use Rattle.worker_hall.proofs.hall.serve.Goals as goal

pub returns-then-connections-eq0-clause-served : goal.returns-then-connections-eq0-clause-served
returns-then-connections-eq0-clause-served g c =
    served_none g.L.Listener.are_sides g.S.Serves.served c.args.servers.now.items c.args.servers.now.items c.new-tally.result refl c.new-tally.ensures
