-- How a guard ends.
use Rattle.std.specs.Prelude.{◌≡◌, ◌⊎◌, ℕ, ◌-◌, ◌^◌, List, ◌++◌, codes, Result, Ok, Err}
use Rattle.hub_devices.specs.Faults.{Rises}
use Rattle.hub_devices.specs.Streams.{Appends}
use Rattle.secret_files.specs.declared.secret_file.SecretError.{SecretError}
use Rattle.secret_files.specs.declared.secret_file.SecretError.TheVariants as secret
use Rattle.worker_hall.specs.Given.{GaveMore}
use Rattle.worker_hall.specs.declared.hall.HallFault.{HallFault}
use Rattle.worker_hall.specs.declared.hall.HallFault.TheVariants as hall
use Rattle.guard_serving.specs.Hall.{Hall}
use Rattle.guard_serving.specs.declared.ends.GuardEnd.{GuardEnd}
use Rattle.guard_serving.specs.declared.ends.GuardFault.{GuardFault}
use Rattle.guard_serving.specs.declared.ends.GuardFault.TheVariants.{Words, NoFile, NoSecret, Output, Memory, Listener, Full}

-- The exit status of a guard that ended so: 2 for the words, 3 for the secret, 6 for the output, 7 for want of memory, 8 for the listener,
-- and 0 at the greatest number of connections
abbrev pub status_of : GuardFault → ℕ
status_of Full = 0
status_of Words = 2
status_of NoFile = 3
status_of NoSecret = 3
status_of Output = 6
status_of Memory = 7
status_of Listener = 8

-- Why a guard ends that has no secret to serve by
abbrev pub fault_of_secret : SecretError → GuardFault
fault_of_secret secret.NoFile = NoFile
fault_of_secret secret.NoSecret = NoSecret
fault_of_secret secret.Memory = Memory

-- Why a guard ends whose connections were served to this end
abbrev pub fault_of_hall : Result (Unit {0}) HallFault → GuardFault
fault_of_hall (Ok _) = Full
fault_of_hall (Err (hall.Listener n)) = Listener
fault_of_hall (Err hall.Memory) = Memory

-- the end before any connection
abbrev pub unserved : GuardFault → GuardEnd
unserved fault = record { served = 0; fault = fault }

-- `ready` and a line end
abbrev pub ready : List ℕ
ready = codes "ready\n"

-- `ready` was written, and so many connections were taken, from h to h'
pub record HasServed (h : Hall) (count : ℕ) (h' : Hall) : Type 0 where
  pub said : Appends h.held ready h'.held
  pub gave : GaveMore h.given count h'.given

-- The output failed after a part of `ready`, and no connection was taken
pub record IsUnsaid (h h' : Hall) : Type 0 where
  pub part : List ℕ
  pub more : List ℕ
  pub parts : ready ≡ part ++ more
  pub wrote : Appends h.held part h'.held
  pub rises : Rises h.writes h'.writes
  pub none : h'.given ≡ h.given

-- How a guard that begins to serve ends, after so many connections: h is what it had outside before, and h' what it has then
abbrev pub Over : Hall → (count : ℕ) → GuardFault → Hall → Type 0
Over h count Words h' = ⊥
Over h count NoFile h' = ⊥
Over h count NoSecret h' = ⊥
Over h count Output h' = (count ≡ 0) × IsUnsaid h h'
Over h count Memory h' = (count ≡ 0) × ((h' ≡ h) ⊎ HasServed h 0 h')
Over h count Listener h' = HasServed h count h' × Rises h.accepts h'.accepts
Over h count Full h' = HasServed h count h' × (count ≡ 2 ^ 64 - 1)

-- The same of the whole end, which tells that number and why
abbrev pub IsOver : Hall → GuardEnd → Hall → Type 0
IsOver h end h' = Over h end.served end.fault h'
