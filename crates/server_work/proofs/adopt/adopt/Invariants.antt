use Rattle.std.proofs.Common.{◌≡◌, ◌+◌, ◌≤◌, List, Option, take}
use Rattle.server_work.specs.declared.tale.Tale.{Tale}
use Rattle.server_work.specs.Gains.{Gain}
use Rattle.server_work.specs.Adoptions.{Adoptions, readies, stops, parks}
use Rattle.server_work.proofs.adopt.adopt.Given as goal

abbrev pub invariant-loop-work : goal.invariant-loop-work
invariant-loop-work g l = record {
  of : l.pass.of ≡ l.desk;
  few : l.adopted.ready + l.adopted.stopped + l.adopted.parked ≤ l.work-index;
  ends : (ends : List (Option Tale)) × (ts : List (Gain g.row.B-Entry.Denot))
      × Adoptions g.B.LifeBook.reached g.B.LifeBook.notes
      (record { pass = l.fn.pass; spawner = g.S.Spawner.calls l.fn.spawner; routes = g.P.RouteLink.calls l.fn.routes }) (take l.work-index l.works) ends ts
      (record { pass = l.pass; spawner = g.S.Spawner.calls l.spawner; routes = g.P.RouteLink.calls l.routes })
      × (l.adopted.ready ≡ readies ends) × (l.adopted.stopped ≡ stops ends) × (l.adopted.parked ≡ parks ends);
  spawner_counted : g.S.Spawner.faults l.fn.spawner ≤ g.S.Spawner.faults l.spawner;
  routes_counted : g.P.RouteLink.faults l.fn.routes ≤ g.P.RouteLink.faults l.routes;
}
