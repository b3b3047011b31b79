use Rattle.std.proofs.Common.{◌≡◌, ◌+◌, ◌≤◌, take, map}
use Rattle.hub_devices.specs.Calls.{Grows}
use Rattle.hub_sync.specs.Syncing.{AllDone, as_done}
use Rattle.hub_sync.proofs.calls.make.Given as goal

abbrev pub invariant-loop-one : goal.invariant-loop-one
invariant-loop-one g l = record {
  done : AllDone (take l.one-index l.calls) l.synced;
  grows : Grows (g.P.RouteLink.calls l.fn.routes) (map as_done (take l.one-index l.calls)) (g.P.RouteLink.calls l.routes);
  few : l.synced.added + l.synced.deleted ≤ l.one-index;
  counted : g.P.RouteLink.faults l.fn.routes ≤ g.P.RouteLink.faults l.routes;
}
