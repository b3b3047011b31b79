use Rattle.std.proofs.Common.{◌≡◌, ◌≤◌, ◌<◌, ◌-◌, [], List, length, Some}
use Rattle.hub_core.specs.declared.start.Start.{Start}
use Rattle.hub_run.specs.Turns.{Turn, Turns, view_of}
use Rattle.hub_run.specs.Connections.{Ran}
use Rattle.hub_run.proofs.connection.serve_turns.Given as goal

abbrev pub invariant-turns : goal.invariant-turns
invariant-turns g l = record {
  of : l.pass.of ≡ l.fn.pass.of;
  base : l.pass.base ≡ l.fn.pass.base;
  alone : l.pass.alone ≡ l.fn.pass.alone;
  ran : (start : Start) → l.fn.pass.base ≡ Some start → (turns : List Turn) × (length turns ≡ l.count)
      × Ran start (g.I.Source.left l.fn.input) (g.O.Sink.held l.fn.output) (g.I.Source.left l.input) (g.O.Sink.held l.output) turns l.kept []
      × Turns (view_of g.C.Clock.to_come g.R.Random.left g.S.Spawner.calls g.P.RouteLink.calls g.R.Random.faults g.S.Spawner.faults g.P.RouteLink.faults l.fn.pass l.fn.kit) turns
      (view_of g.C.Clock.to_come g.R.Random.left g.S.Spawner.calls g.P.RouteLink.calls g.R.Random.faults g.S.Spawner.faults g.P.RouteLink.faults l.pass l.kit);
  below : l.count < 1000;
  reads : g.I.Source.faults l.fn.input ≤ g.I.Source.faults l.input;
  writes : g.O.Sink.faults l.fn.output ≤ g.O.Sink.faults l.output;
}

abbrev pub decreases-turns : goal.decreases-turns
decreases-turns g l = 1000 - l.count
