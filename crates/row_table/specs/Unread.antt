-- Why a query of this program isn't answered.
use Rattle.std.specs.Prelude.{◌≡◌, ◌⊎◌, false, IsSome}
use Rattle.sqlite.specs.Disk.{MoreFaults}
use Rattle.sqlite.specs.State.{State}
use Rattle.sqlite.specs.declared.error.Error.{Error}
use Rattle.sqlite.specs.declared.error.Error.TheVariants.{SqliteFailure}
use Rattle.sqlite.specs.declared.error.ErrorCode.TheVariants.{OutOfMemory, OperationInterrupted}

-- for want of memory, by a fault of the disk, which was counted, over a connection that was shut, or at a limit on its steps
abbrev pub IsUnread : State → State → Error → Type 0
IsUnread old new e =
    (e ≡ SqliteFailure OutOfMemory)
    ⊎ (MoreFaults old.faults new.faults ⊎ ((old.is_open ≡ false) ⊎ ((e ≡ SqliteFailure OperationInterrupted) × IsSome old.step_limit)))
