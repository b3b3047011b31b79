use Rattle.std.proofs.Common.{rules, ◌≡◌}
use Rattle.guard_serving.proofs.GuardLemmas.{AtDoor, door_keeps, kits_served, none_served}
use Rattle.guard_serving.proofs.serving.serve_at_door.Goals as goal

pub returns-clause-served : goal.returns-clause-served
returns-clause-served g c =
    kits_served g.L.Listener.are_sides g.L.In.Source.left g.L.Out.Sink.held g.U.Upstream.told g.L.In.Source.faults g.U.Upstream.faults g.L.Out.Sink.faults
    (AtDoor g.H.HubLink.asked g.H.HubLink.does g.H.HubLink.faults g.U.Reads.Source.left g.U.Writes.Sink.held g.U.Reads.Source.faults g.U.Writes.Sink.faults g.U.Writes.Sink.closed g.L.Out.Sink.closed g.R.Random.left g.R.Random.faults)
    (door_keeps g.H.HubLink.asked g.H.HubLink.does g.H.HubLink.faults g.U.Reads.Source.left g.U.Writes.Sink.held g.U.Reads.Source.faults g.U.Writes.Sink.faults g.U.Writes.Sink.closed g.L.Out.Sink.closed g.R.Random.left g.R.Random.faults)
    (λ x. x.door.now) (λ x. x.kit) c.args.door.now c.args.kits.now.items c.dismiss.new.kits.items c.in-Ok.guards.items c.serve_all-end.new.guards.items c.serve_all-end.result.served
    c.in-Ok.ensures.stand c.in-Ok.ensures.hired.1 c.serve_all-end.ensures.served c.dismiss.ensures.back

pub returns-in-Err-clause-served : goal.returns-in-Err-clause-served
returns-in-Err-clause-served g c =
    let none : c.unserved.result.served ≡ 0 = search rules in
    none_served _ _ c.args.kits.now.items c.hire_at_door.new.kits.items c.unserved.result.served c.in-Err.ensures.kept none
