-- What a hub that serves has outside, where it is told.
use Rattle.std.specs.Prelude.{◌≡◌, ℕ, List, map, Option}
use Rattle.desk.specs.Passes.{PassState}
use Rattle.hub_devices.specs.declared.calls.Spawning.{Spawning}
use Rattle.hub_devices.specs.declared.calls.Routing.{Routing}
use Rattle.hub_devices.specs.declared.calls.Told.{Told}
use Rattle.hub_core.specs.Visits.{Entry}
use Rattle.hub_core.specs.declared.start.Start.{Start}
use Rattle.hub_run.specs.Turns.{View}
use Rattle.hub_core.specs.declared.kit.HubKit.{HubKit}
use Rattle.hub_main.specs.Told.{StreamTold, KitTold, kit_told}
use Rattle.hub_serve.specs.Sessions.{DevicesTold, devices_of}
use Rattle.services_run.specs.Calls.{RunCall}
use Rattle.service_doors.specs.Tending.{ServicesTold, services_told}
use Rattle.service_doors.specs.declared.kit.ServiceKit.{ServiceKit}

-- how many connections the listener has given, and its faults
pub record DoorsTold : Type 0 where
  pub given : Option ℕ
  pub faults : ℕ

-- what the two sides of one connection tell of the bytes to come and of those that were written, when the listener gives it
abbrev pub SidesTell : {I O : Type 0} → (I → O → Type 0) → (I → Option (List ℕ)) → (O → Option (List ℕ)) → Option (List ℕ) → Option (List ℕ)
    → Type 0
SidesTell {I} {O} are_sides to_come written left held = (i : I) × (o : O) × are_sides i o × (to_come i ≡ left) × (written o ≡ held)

-- the output, the listener, the devices by which the hub is opened and takes its servers back (the moments to come, and what the others
-- tell), those of its workers, and those of its services
pub record Hall : Type 0 where
  pub output : StreamTold
  pub doors : DoorsTold
  pub clock : Option (ℕ → ℕ)
  pub kit : KitTold
  pub kits : List DevicesTold
  pub services : ServicesTold

-- What such devices tell. The first thirteen arguments say it of each kind: the output's bytes and faults, the listener's number and
-- faults, the moments and the draws to come, the calls of the spawner and of the route link, the faults of the draws and of these two, and
-- the services' calls and faults. The last five are the devices themselves
abbrev pub hall : {O D S P C R V : Type 0} → (O → Option (List ℕ)) → (O → ℕ) → (D → Option ℕ) → (D → ℕ) → (C → Option (ℕ → ℕ))
    → (R → Option (List (List ℕ))) → (S → Option (List (Spawning × Told))) → (P → Option (List (Routing × Told)))
    → (R → ℕ) → (S → ℕ) → (P → ℕ) → (V → Option (List RunCall)) → (V → ℕ)
    → O → D → HubKit S P C R → List (HubKit S P C R) → ServiceKit V P C → Hall
hall held write_faults given door_faults to_come left spawned routed draw_faults spawn_faults route_faults ran run_faults
    output doors kit kits services = record {
      output = record { bytes = held output; faults = write_faults output };
      doors = record { given = given doors; faults = door_faults doors };
      clock = to_come kit.clock;
      kit = kit_told left spawned routed draw_faults spawn_faults route_faults kit;
      kits = map (devices_of to_come left spawned routed draw_faults spawn_faults route_faults) kits;
      services = services_told ran routed to_come run_faults route_faults services;
    }

-- From h to h' nothing was written or accepted, no moment was asked, and no device was called
pub record IsQuiet (h h' : Hall) : Type 0 where
  pub output : h'.output ≡ h.output
  pub doors : h'.doors ≡ h.doors
  pub clock : h'.clock ≡ h.clock
  pub kit : h'.kit ≡ h.kit
  pub kits : h'.kits ≡ h.kits
  pub services : h'.services ≡ h.services

-- The same of all but the workers' devices and the services
pub record NothingAccepted (h h' : Hall) : Type 0 where
  pub output : h'.output ≡ h.output
  pub doors : h'.doors ≡ h.doors
  pub clock : h'.clock ≡ h.clock
  pub kit : h'.kit ≡ h.kit

-- What the hub knows by a pass and the devices of the opening
abbrev pub view_in : PassState Entry Start → Hall → View
view_in pass h = record {
  pass = pass;
  clock = h.clock;
  draws = h.kit.draws;
  spawner = h.kit.spawner;
  routes = h.kit.routes;
  faults = h.kit.faults;
}

-- What is outside then, at a later view y of the same devices
abbrev pub at_view : Hall → View → Hall
at_view h y = record h {
  clock = y.clock;
  kit = record { draws = y.draws; spawner = y.spawner; routes = y.routes; faults = y.faults };
}
