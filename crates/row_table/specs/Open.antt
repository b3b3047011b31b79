-- What keeps a connection open.
use Rattle.std.specs.Prelude.{◌⊎◌, ◌≤◌, IsTrue}
use Rattle.sqlite.specs.Disk.{MoreFaults}
use Rattle.sqlite.specs.State.{State, HasCleanDisk}

-- no fault of the disk is forgotten, and while it is clean nothing shuts the connection but a fault that was counted
pub record StaysOpen (old new : State) : Type 0 where
  pub counts : old.faults ≤ new.faults
  pub closes : HasCleanDisk new → IsTrue old.is_open → IsTrue new.is_open ⊎ MoreFaults old.faults new.faults
