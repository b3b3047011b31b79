use Rattle.std.proofs.Common.{◌≡◌, ◌≢◌, ◌≤◌, List, Some, []}
use Rattle.std.specs.Prelude.{IsSome}
use Rattle.server_life.specs.declared.life.Todo.TheVariants.{Nothing, Start}
use Rattle.hub_devices.specs.Faults.{Rises}
use Rattle.server_work.specs.declared.work.Device.TheVariants as Device
use Rattle.server_work.specs.Tales.{new_tale}
use Rattle.server_work.specs.Runs.{KeepsOthers}
use Rattle.server_work.specs.Chains.{Step, sight, tale_from, Drove}
use Rattle.server_work.proofs.Ranks.{rank}
use Rattle.server_work.proofs.chain.drive.Given as goal

abbrev pub invariant-steps : goal.invariant-steps
invariant-steps g l = record {
  drove : (ss : List (Step g.row.B-Entry.Denot)) × Drove g.B.LifeBook.reached g.B.LifeBook.notes l.work
      (record { pass = l.fn.pass; spawner = g.S.Spawner.calls l.fn.spawner; routes = g.P.RouteLink.calls l.fn.routes })
      (record { pass = l.pass; spawner = g.S.Spawner.calls l.spawner; routes = g.P.RouteLink.calls l.routes })
      l.fn.first l.owed (sight l.pass) ss [] × (l.tale ≡ tale_from new_tale ss);
  of : l.pass.of ≡ l.desk;
  some : l.owed ≢ Nothing;
  secret : l.owed ≡ Start → IsSome l.work.secret;
  others : KeepsOthers (g.S.Spawner.may_run l.fn.spawner) l.work.generation (g.S.Spawner.may_run l.spawner);
  spawner_counted : g.S.Spawner.faults l.fn.spawner ≤ g.S.Spawner.faults l.spawner;
  routes_counted : g.P.RouteLink.faults l.fn.routes ≤ g.P.RouteLink.faults l.routes;
  spawner_cause : l.tale.failed ≡ Some Device.Spawner → Rises (g.S.Spawner.faults l.fn.spawner) (g.S.Spawner.faults l.spawner);
  routes_cause : l.tale.failed ≡ Some Device.Proxy → Rises (g.P.RouteLink.faults l.fn.routes) (g.P.RouteLink.faults l.routes);
}

abbrev pub decreases-steps : goal.decreases-steps
decreases-steps g l = rank l.owed
