use Rattle.hub_core.specs.Visits.{entries_of}
use Rattle.hub_run.specs.Connections.{sink_told, source_told}
use Rattle.hub_serving.specs.Hall.{SidesTell}
use Rattle.hub_serving.proofs.Ready.{as_counted, given_devices, given_sides}
use Rattle.hub_serving.proofs.serving.serve_tended.Goals as goal

pub returns-clause-served : goal.returns-clause-served
returns-clause-served g c =
    as_counted (SidesTell g.W.Doors.Listener.are_sides g.W.Doors.In.Source.left g.W.Doors.Out.Sink.held)
    c.serve-book.result.0.start c.args.pass (entries_of c.serve-book.result.0) c.serve-book.result.1.count c.count.result _ _ _ c.count.ensures
    c.serve-book.ensures.served
    (given_sides _ _ _ _ _ _ _ (source_told g.W.Doors.In.Source) (sink_told g.W.Doors.Out.Sink) g.W.Doors.Listener.are_sides c.serve-book.result.1 c.serve-book.ensures.sides)
    (given_devices g.W.Time.Clock.to_come g.W.Draws.Random.left g.W.Starts.Spawner.calls g.W.Paths.RouteLink.calls g.W.Draws.Random.faults
    g.W.Starts.Spawner.faults g.W.Paths.RouteLink.faults (source_told g.W.Doors.In.Source) (sink_told g.W.Doors.Out.Sink)
    c.serve-book.result.1 c.args.kits.now.items c.serve-book.new.kits.items c.serve-book.ensures.kits)
