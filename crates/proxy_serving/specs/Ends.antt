-- How a proxy ends.
use Rattle.std.specs.Prelude.{◌≡◌, ◌⊎◌, ℕ, ◌-◌, ◌^◌, List, ◌++◌, codes, Option, Result, Ok, Err}
use Rattle.hub_devices.specs.Faults.{Rises}
use Rattle.hub_devices.specs.Streams.{Appends}
use Rattle.worker_hall.specs.declared.hall.HallFault.{HallFault}
use Rattle.worker_hall.specs.declared.hall.HallFault.TheVariants as hall
use Rattle.proxy_serving.specs.declared.ends.ProxyFault.{ProxyFault}
use Rattle.proxy_serving.specs.declared.ends.ProxyFault.TheVariants.{Memory, Output, Listener, Full}

-- `ready` and a line end
abbrev pub ready : List ℕ
ready = codes "ready\n"

abbrev pub status_of : ProxyFault → ℕ
status_of Full = 0
status_of Output = 6
status_of Memory = 7
status_of Listener = 8

-- why no more connections were served, by what the two halls say
abbrev pub fault_of : Result (Unit {0}) HallFault → Result (Unit {0}) HallFault → ProxyFault
fault_of (Ok _) (Ok _) = Full
fault_of (Ok _) (Err (hall.Listener n)) = Listener
fault_of (Ok _) (Err hall.Memory) = Memory
fault_of (Err (hall.Listener n)) (Ok _) = Listener
fault_of (Err (hall.Listener n)) (Err (hall.Listener m)) = Listener
fault_of (Err (hall.Listener n)) (Err hall.Memory) = Memory
fault_of (Err hall.Memory) answered = Memory

-- a listener's serving ended: its count of faults rose, or it gave as many connections as a number can count
abbrev pub HasEnded : (faults faults' count : ℕ) → Type 0
HasEnded faults faults' count = Rises faults faults' ⊎ (count ≡ 2 ^ 64 - 1)

-- the same, or it gave none, where there may have been no memory to begin
abbrev pub MayHaveBegun : (faults faults' count : ℕ) → Type 0
MayHaveBegun faults faults' count = (count ≡ 0) ⊎ HasEnded faults faults' count

-- The counts of faults of both listeners, and how many connections each gave.
module _ (doors doors' api api' forwarded answered : ℕ) where
  -- how both listeners' servings end
  abbrev pub IsOver : ProxyFault → Type 0
  IsOver Memory = ((forwarded ≡ 0) × MayHaveBegun api api' answered) ⊎ (MayHaveBegun doors doors' forwarded × (answered ≡ 0))
  IsOver Output = ⊥
  IsOver Listener = (Rises doors doors' × HasEnded api api' answered) ⊎ (HasEnded doors doors' forwarded × Rises api api')
  IsOver Full = (forwarded ≡ 2 ^ 64 - 1) × (answered ≡ 2 ^ 64 - 1)

  -- how a proxy ends: so, or before it took a connection, since `ready` wasn't written
  abbrev pub IsFault : (writes writes' : ℕ) → ProxyFault → Type 0
  IsFault writes writes' Memory = IsOver Memory
  IsFault writes writes' Output = Rises writes writes' × (forwarded ≡ 0) × (answered ≡ 0)
  IsFault writes writes' Listener = IsOver Listener
  IsFault writes writes' Full = IsOver Full

-- what stands on the output: nothing more where there was no memory to begin, a part of `ready` and a line end at a fault, else all of it
abbrev pub IsSaid : Option (List ℕ) → Option (List ℕ) → ProxyFault → Type 0
IsSaid held held' Memory = (held' ≡ held) ⊎ Appends held ready held'
IsSaid held held' Output = (part more : List ℕ) × (ready ≡ part ++ more) × Appends held part held'
IsSaid held held' Listener = Appends held ready held'
IsSaid held held' Full = Appends held ready held'
