-- What a command finds outside and what it leaves there, where it is told.
use Rattle.std.specs.Prelude.{◌≡◌, ℕ, List, Option}
use Rattle.hub_devices.specs.declared.calls.Spawning.{Spawning}
use Rattle.hub_devices.specs.declared.calls.Routing.{Routing}
use Rattle.hub_devices.specs.declared.calls.Told.{Told}
pub use Rattle.hub_run.specs.Connections.{StreamTold}
use Rattle.hub_run.specs.Turns.{Faults}
use Rattle.hub_core.specs.declared.kit.HubKit.{HubKit}

-- the files, each with its name and its bytes, and the faults of reading them
pub record FilesTold : Type 0 where
  pub files : Option (List (List ℕ × List ℕ))
  pub faults : ℕ

-- what such files tell
abbrev pub files_told : {F : Type 0} → (F → Option (List (List ℕ × List ℕ))) → (F → ℕ) → F → FilesTold
files_told told faults files = record { files = told files; faults = faults files }

-- what the devices of a kit tell: the draws to come, the calls of the spawner and of the route link, and their faults
pub record KitTold : Type 0 where
  pub draws : Option (List (List ℕ))
  pub spawner : Option (List (Spawning × Told))
  pub routes : Option (List (Routing × Told))
  pub faults : Faults

-- what the devices of such a kit tell
abbrev pub kit_told : {S P C R : Type 0} → (R → Option (List (List ℕ))) → (S → Option (List (Spawning × Told)))
    → (P → Option (List (Routing × Told)))
    → (R → ℕ) → (S → ℕ) → (P → ℕ) → HubKit S P C R → KitTold
kit_told left spawned routed draw_faults spawn_faults route_faults kit = record {
  draws = left kit.random;
  spawner = spawned kit.spawner;
  routes = routed kit.routes;
  faults = record { random = draw_faults kit.random; spawner = spawn_faults kit.spawner; routes = route_faults kit.routes };
}

-- the input, the output and the kit
pub record Sides : Type 0 where
  pub input : StreamTold
  pub output : StreamTold
  pub kit : KitTold

-- what such sides and a kit tell
abbrev pub sides : {I O : Type 0} → (I → Option (List ℕ)) → (I → ℕ) → (O → Option (List ℕ)) → (O → ℕ) → I → O → KitTold → Sides
sides left read_faults held write_faults input output kit = record {
  input = record { bytes = left input; faults = read_faults input };
  output = record { bytes = held output; faults = write_faults output };
  kit = kit;
}

-- nothing was read or written, and no device of the kit was called
pub record IsQuiet (s s' : Sides) : Type 0 where
  pub input : s'.input ≡ s.input
  pub output : s'.output ≡ s.output
  pub kit : s'.kit ≡ s.kit
