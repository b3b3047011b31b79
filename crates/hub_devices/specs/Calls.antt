-- A device's calls with what they told, where it tells them.
use Rattle.std.specs.Prelude.{◌≡◌, Bool, true, false, List, ◌++◌, Option, Some, Result, Ok, Err}
use Rattle.hub_devices.specs.declared.calls.Told.{Told}
use Rattle.hub_devices.specs.declared.calls.Told.TheVariants.{Done, Runs, NoMemory}
use Rattle.hub_devices.specs.declared.calls.Told.TheVariants as Tell
use Rattle.hub_devices.specs.declared.link_error.LinkError.{LinkError}
use Rattle.hub_devices.specs.declared.link_error.LinkError.TheVariants as Link

-- these calls were made after those that were told before; a device that can't keep a call tells none from then on
pub record Grows {A : Type 0} (before : Option (List A)) (more : List A) (after : Option (List A)) : Type 0 where
  pub adds : (calls : List A) → after ≡ Some calls → (earlier : List A) × (before ≡ Some earlier) × (calls ≡ earlier ++ more)

-- what is told of a call that gives nothing
abbrev pub told_unit : {A F : Type 0} → Result A F → Told
told_unit (Ok a) = Done
told_unit (Err e) = Tell.Failed

-- what is told of a poll
abbrev pub told_bool : {F : Type 0} → Result Bool F → Told
told_bool (Ok b) = Runs b
told_bool (Err e) = Tell.Failed

-- what is told of a list that wasn't given
abbrev pub told_error : LinkError → Told
told_error Link.Failed = Tell.Failed
told_error Link.Memory = NoMemory

-- whether the device failed
abbrev pub is_fault : {A : Type 0} → Result A LinkError → Bool
is_fault (Ok a) = false
is_fault (Err Link.Failed) = true
is_fault (Err Link.Memory) = false
