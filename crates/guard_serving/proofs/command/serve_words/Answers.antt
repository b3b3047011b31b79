use Rattle.guard_serving.proofs.GuardLemmas.{AtDoor, ByToken, by_kit, no_secret, with_secret}
use Rattle.guard_serving.proofs.command.serve_words.Goals as goal

pub returns-in-Some-clause-served : goal.returns-in-Some-clause-served
returns-in-Some-clause-served g c =
    let served = c.serve_at_door-end in
    with_secret g.L.Listener.are_sides
    (by_kit g.L.In.Source.left g.L.Out.Sink.held g.U.Upstream.told g.L.In.Source.faults g.U.Upstream.faults g.L.Out.Sink.faults (ByToken g.H.HubLink.asked g.H.HubLink.does g.H.HubLink.faults g.U.Reads.Source.left g.U.Writes.Sink.held g.U.Reads.Source.faults g.U.Writes.Sink.faults g.U.Writes.Sink.closed g.L.Out.Sink.closed))
    (by_kit g.L.In.Source.left g.L.Out.Sink.held g.U.Upstream.told g.L.In.Source.faults g.U.Upstream.faults g.L.Out.Sink.faults (AtDoor g.H.HubLink.asked g.H.HubLink.does g.H.HubLink.faults g.U.Reads.Source.left g.U.Writes.Sink.held g.U.Reads.Source.faults g.U.Writes.Sink.faults g.U.Writes.Sink.closed g.L.Out.Sink.closed g.R.Random.left g.R.Random.faults))
    c.args.kits.now.items served.new.kits.items c.args.words served.result.served c.args.secret
    c.in-Some.secret c.door_of-door.result c.in-Some.is c.door_of-door.ensures served.ensures.served

pub returns-in-None-clause-served : goal.returns-in-None-clause-served
returns-in-None-clause-served g c =
    let served = c.serve_by_token-end in
    no_secret g.L.Listener.are_sides
    (by_kit g.L.In.Source.left g.L.Out.Sink.held g.U.Upstream.told g.L.In.Source.faults g.U.Upstream.faults g.L.Out.Sink.faults (ByToken g.H.HubLink.asked g.H.HubLink.does g.H.HubLink.faults g.U.Reads.Source.left g.U.Writes.Sink.held g.U.Reads.Source.faults g.U.Writes.Sink.faults g.U.Writes.Sink.closed g.L.Out.Sink.closed))
    (by_kit g.L.In.Source.left g.L.Out.Sink.held g.U.Upstream.told g.L.In.Source.faults g.U.Upstream.faults g.L.Out.Sink.faults (AtDoor g.H.HubLink.asked g.H.HubLink.does g.H.HubLink.faults g.U.Reads.Source.left g.U.Writes.Sink.held g.U.Reads.Source.faults g.U.Writes.Sink.faults g.U.Writes.Sink.closed g.L.Out.Sink.closed g.R.Random.left g.R.Random.faults))
    c.args.kits.now.items served.new.kits.items c.args.words served.result.served c.args.secret
    c.in-None.is served.ensures.served
