-- What the programs and the routes of services were asked, with what was told.
use Rattle.std.specs.Prelude.{ℕ, Bool, true, false, List, Option, Some, None}
use Rattle.hub_devices.specs.declared.calls.Routing.{Routing}
use Rattle.hub_devices.specs.declared.calls.Routing.TheVariants as Route
use Rattle.hub_devices.specs.declared.calls.Told.{Told}
use Rattle.hub_devices.specs.declared.calls.Told.TheVariants.{Done, Runs, Listed, NoMemory}
use Rattle.hub_devices.specs.declared.calls.Told.TheVariants as Tell
use Rattle.services_run.specs.declared.calls.ServiceCall.{ServiceCall}
use Rattle.services_run.specs.declared.calls.ServiceCall.TheVariants.{Start, Stop, Poll}
use Rattle.services_run.specs.declared.place.Managed.{Managed}

-- A call on programs, with what it told
abbrev pub RunCall : Type 0
RunCall = ServiceCall × Told

-- A call on routes, with what it told
abbrev pub PathCall : Type 0
PathCall = Routing × Told

-- what a call told that was done, or failed
abbrev pub told_done : Bool → Told
told_done true = Done
told_done false = Tell.Failed

-- what a poll told, where it didn't fail
abbrev pub told_poll : Option Bool → Told
told_poll None = Tell.Failed
told_poll (Some runs) = Runs runs

-- The start of the service m with the number g, and whether it was done
abbrev pub start_of : ℕ → Managed → Bool → RunCall
start_of g m ok = (Start g m.name m.target m.secret, told_done ok)

-- The stop of its program g, and whether it was done
abbrev pub stop_of : ℕ → Managed → Bool → RunCall
stop_of g m ok = (Stop g m.target, told_done ok)

-- The poll of its program g, and whether that runs, where the poll didn't fail
abbrev pub poll_of : ℕ → Managed → Option Bool → RunCall
poll_of g m told = (Poll g m.target, told_poll told)

-- The addition of the service's route at a path, and whether it was done. An addition has no serial
abbrev pub add_of : List ℕ → Managed → Bool → PathCall
add_of path m ok = (Route.Add path m.target None, told_done ok)

-- The deletion of the route at a path, with this serial, and whether it was done
abbrev pub delete_of : List ℕ → ℕ → Bool → PathCall
delete_of path serial ok = (Route.Delete path serial, told_done ok)

-- What was told is that the call was done
abbrev pub is_done : Told → Bool
is_done Done = true
is_done (Runs runs) = false
is_done (Listed routes) = false
is_done Tell.Failed = false
is_done NoMemory = false

-- What was told is that nothing runs
abbrev pub is_over : Told → Bool
is_over Done = false
is_over (Runs true) = false
is_over (Runs false) = true
is_over (Listed routes) = false
is_over Tell.Failed = false
is_over NoMemory = false
