use Rattle.service_doors.specs.Tending.{services_told}
use Rattle.hub_serving.proofs.serving.serve_services.Given as goal

abbrev pub ghosts-serve_tended : goal.ghosts-serve_tended
ghosts-serve_tended g a = record {
  doors = a.front.doors.ghost_name;
  kit = a.front.kit.ghost_name;
  book = a.services;
  told = services_told g.W.Runs.Running.calls g.W.Paths.RouteLink.calls g.W.Time.Clock.to_come g.W.Runs.Running.faults g.W.Paths.RouteLink.faults a.front.kit.now;
  given = g.W.Doors.Listener.given a.front.doors.now;
  faults = g.W.Doors.Listener.faults a.front.doors.now;
}
