-- What a refusal of the database is to the hub, and what it counts.
use Rattle.std.specs.Prelude.{◌≡◌, ◌⊎◌, ℕ, false, IsSome, Result, Ok, Err, ⊤}
use Rattle.hub_devices.specs.FailingCalls.{one_more}
use Rattle.keeper.specs.declared.keeper.KeeperError.{KeeperError}
use Rattle.keeper.specs.declared.keeper.KeeperError.TheVariants.{Failed, Memory}
use Rattle.sqlite.specs.Disk.{MoreFaults}
use Rattle.sqlite.specs.State.{State}
use Rattle.sqlite.specs.declared.error.Error.{Error}
use Rattle.sqlite.specs.declared.error.Error.TheVariants.{SqliteFailure}
use Rattle.sqlite.specs.declared.error.ErrorCode.TheVariants.{OutOfMemory}

-- want of memory is no fault, and all else is one
abbrev pub cause_of : Error → KeeperError
cause_of (SqliteFailure OutOfMemory) = Memory
cause_of _ = Failed

-- how many faults there are after a refusal
abbrev pub counted : KeeperError → ℕ → ℕ
counted Failed faults = one_more faults
counted Memory faults = faults

-- how many there are after a call
abbrev pub faults_after : {A : Type 0} → Result A KeeperError → ℕ → ℕ
faults_after (Ok a) faults = faults
faults_after (Err cause) faults = counted cause faults

-- Why a store wasn't read, whose connection was `old` before and is `new` then: for want of memory; or the disk failed and counted it, the
-- connection was shut, or there was a limit on its steps
abbrev pub IsNotRead : State → State → KeeperError → Type 0
IsNotRead old new Memory = ⊤
IsNotRead old new Failed = MoreFaults old.faults new.faults ⊎ ((old.is_open ≡ false) ⊎ IsSome old.step_limit)
