-- What a visitor of the book knows: its pass, and what its devices tell.
use Rattle.std.specs.Prelude.{ℕ, List, Option}
use Rattle.desk.specs.Passes.{PassState}
use Rattle.hub_devices.specs.declared.calls.Spawning.{Spawning}
use Rattle.hub_devices.specs.declared.calls.Routing.{Routing}
use Rattle.hub_devices.specs.declared.calls.Told.{Told}
use Rattle.server_work.specs.Chains.{At}
use Rattle.hub_core.specs.Visits.{Entry}
use Rattle.hub_core.specs.declared.kit.HubKit.{HubKit}
use Rattle.hub_core.specs.declared.start.Start.{Start}

-- how often the source of draws, the spawner and the route link have failed
pub record Faults : Type 0 where
  pub random : ℕ
  pub spawner : ℕ
  pub routes : ℕ

-- what a visitor knows: its pass, the moments and the draws to come, the calls that the spawner and the route link tell, and the faults
pub record View : Type 0 where
  pub pass : PassState Entry Start
  pub clock : Option (ℕ → ℕ)
  pub draws : Option (List (List ℕ))
  pub spawner : Option (List (Spawning × Told))
  pub routes : Option (List (Routing × Told))
  pub faults : Faults

-- what is known of a pass and a kit of devices, by what these tell
abbrev pub view_of : {S P C R : Type 0} → (C → Option (ℕ → ℕ)) → (R → Option (List (List ℕ))) → (S → Option (List (Spawning × Told)))
    → (P → Option (List (Routing × Told)))
    → (R → ℕ) → (S → ℕ) → (P → ℕ) → PassState Entry Start → HubKit S P C R → View
view_of to_come left spawned linked draw_faults spawn_faults route_faults pass kit = record {
  pass = pass;
  clock = to_come kit.clock;
  draws = left kit.random;
  spawner = spawned kit.spawner;
  routes = linked kit.routes;
  faults = record { random = draw_faults kit.random; spawner = spawn_faults kit.spawner; routes = route_faults kit.routes };
}

-- the pass, and the calls that the devices tell
abbrev pub at_chain : View → At Entry Start
at_chain x = record { pass = x.pass; spawner = x.spawner; routes = x.routes }
