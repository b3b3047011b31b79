-- The keeper over a file.
use Rattle.std.specs.Prelude.{◌≡◌, ◌≤◌, ℕ, Bool, IsTrue}
use Rattle.sqlite.specs.Files.{file_state, over_files, IsOpened}
use Rattle.sqlite.specs.Held.{Held, state}
use Rattle.sqlite.specs.Start.{FindsIn}
use Rattle.sqlite.specs.State.{HasCleanDisk}
use Rattle.sqlite.specs.Store.{Ghosts}
use Rattle.sqlite.specs.View.{doubt}
use Rattle.sqlite_disk.specs.declared.Disk as disk
use Rattle.sqlite_store.specs.declared.store.FileStore.{FileStore}
use Rattle.sqlite_wal.specs.Recovery.{Image}
use Rattle.keeper_sqlite.specs.Own.{Stands}

module _ {S : Type 0} (g : Ghosts S) where
  -- a keeper without a fault, which found the store of this connection to be one of the hub, and left it as it was
  pub record IsResumed (found kept : Held S) (faults : ℕ) (is_own : Bool) : Type 0 where
    pub no_fault : faults ≡ 0
    pub own : IsTrue is_own
    pub clean : doubt (state g found).is_clean ≤ doubt (state g kept).is_clean
    pub is_open : HasCleanDisk (state g kept) → IsTrue (state g found).is_open → IsTrue (state g kept).is_open
    pub stands : HasCleanDisk (state g kept) → Stands g found kept

module _ {D : Type 0} {g : disk.Ghosts D} where
  -- the store that it found is the database that the files held
  abbrev pub IsOver : Image → Held (FileStore D g) → ℕ → Bool → Type 0
  IsOver image kept faults is_own =
      (found : Held (FileStore D g)) × (HasCleanDisk (file_state found) → IsOpened found × FindsIn image (file_state found))
      × IsResumed over_files found kept faults is_own
