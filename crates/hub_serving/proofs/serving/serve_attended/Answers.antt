use Rattle.std.proofs.Common.{inl, refl}
use Rattle.hub_serving.proofs.Ready.{as_told, ready, serves}
use Rattle.hub_serving.proofs.Attended.{whole}
use Rattle.hub_serving.proofs.serving.serve_attended.Goals as goal

pub returns-clause-ends : goal.returns-clause-ends
returns-clause-ends g c = λ start base.
    let t = c.serve_services-book.ensures in
    ready _ _ _ _ start c.args.pass c.args.plan.now _ _ _ _ c.serve_services-book.result.0 c.serve_services-book.result.1
    (serves g.W.Out.Sink.held g.W.Out.Sink.faults g.W.Doors.Listener.given g.W.Doors.Listener.faults _ _ _ _ _ _ _ _ _ _
    c.args.plan.now.connections c.serve_services-book.result.1 c.serve_services-book.result.1 c.serve_services-book.result.2 c.end_of.result refl t.given
    t.most t.all t.fault t.untouched c.end_of.ensures.ok c.end_of.ensures.err c.end_of.ensures.begun)
    (inl (c.requires.few, whole _ _ _ _ _ _ _ _ _ _ c.requires.services t.tended c.halt.ensures.halts))
    t.begins t.base base
    (as_told g.W.Out.Sink.held g.W.Out.Sink.faults g.W.Doors.Listener.faults _ _ _ _
    c.serve_services-book.result.1 c.serve_services-book.result.2 c.end_of.result t.fault c.end_of.ensures.ok c.end_of.ensures.err)
    t.served c.into_parts-store.ensures.reached c.into_parts-store.ensures.rows
