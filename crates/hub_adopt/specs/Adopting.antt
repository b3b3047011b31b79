-- What it is to take the running servers back.
use Rattle.std.specs.Prelude.{◌≡◌, ◌≤◌, List, map, Option, None}
use Rattle.desk.specs.Passes.{IsSamePass}
use Rattle.server_work.specs.declared.work.Work.{Work}
use Rattle.server_work.specs.declared.tale.Tale.{Tale}
use Rattle.server_work.specs.declared.adopt.Adopted.{Adopted}
use Rattle.server_work.specs.Adoptions.{Adoptions, readies, stops, parks}
use Rattle.server_work.specs.Chains.{Comes, sight}
use Rattle.server_work.specs.Gains.{Gain, Gains, sum_of}
use Rattle.server_work.specs.RoutePaths.{route_path}
use Rattle.hub_core.specs.LifeBook.{LeadsToLives, Notes}
use Rattle.hub_core.specs.Visits.{Entry}
use Rattle.hub_core.specs.declared.live.LiveServer.{LiveServer}
use Rattle.hub_core.specs.declared.start.Start.{Start}
use Rattle.hub_core.specs.Views.{View, at_chain}
use Rattle.hub_adopt.specs.Found.{AreFound}

-- the work of a server that is adopted, by the path of its route; nothing is started, so there is no secret
abbrev pub work_of : LiveServer → Work
work_of s = record { generation = s.generation; server = s.server; path = route_path s.server; target = s.target; secret = None }

-- the pass has seen the history up to a later place, and up to the same one where it is alone; it made no entry, and no device was asked
pub record Looks (x y : View) : Type 0 where
  pub comes : Comes x.pass.alone (sight x.pass) (sight y.pass)
  pub same : IsSamePass x.pass y.pass
  pub mine : y.pass.mine ≡ x.pass.mine
  pub failed : y.pass.failed ≡ x.pass.failed
  pub clock : y.clock ≡ x.clock
  pub draws : y.draws ≡ x.draws
  pub spawner : y.spawner ≡ x.spawner
  pub routes : y.routes ≡ x.routes
  pub faults : y.faults ≡ x.faults

-- The pass looked, and came to the view `looked`. The servers that were being adopted there are each driven by one chain from there on, in
-- their order, and from x to y there was nothing but these chains.
pub record TakesBack (start : Start) (x : View) (told : Adopted) (y : View) : Type 0 where
  pub looked : View
  pub looks : Looks x looked
  pub servers : List LiveServer
  pub found : AreFound start looked.pass.seen servers
  pub ends : List (Option Tale)
  pub gains : List (Gain Entry)
  pub chains : Adoptions LeadsToLives Notes (at_chain looked) (map work_of servers) ends gains (at_chain y)
  pub gained : Gains (at_chain x) (sum_of gains) (at_chain y)
  pub ready : told.ready ≡ readies ends
  pub stopped : told.stopped ≡ stops ends
  pub parked : told.parked ≡ parks ends
  pub clock : y.clock ≡ x.clock
  pub draws : y.draws ≡ x.draws
  pub random : y.faults.random ≡ x.faults.random
  pub spawner : x.faults.spawner ≤ y.faults.spawner
  pub routes : x.faults.routes ≤ y.faults.routes
