-- A store that this keeper made: which rows are in it.
use Rattle.std.specs.Prelude.{◌≡◌, ◌⊎◌, ℕ, false, ◌==◌, ◌&&◌, Bool, IsTrue, List, [], ◌∷◌}
use Rattle.std.proofs.Common.{rules}
use Rattle.keeper.specs.Rows.{Rows, Lists, no_rows}
use Rattle.keeper.specs.declared.keeper.Row.{Row as Kept}
use Rattle.sqlite.specs.Disk.{MoreFaults}
use Rattle.sqlite.specs.Effect.{Database}
use Rattle.sqlite.specs.Held.{Held, state}
use Rattle.sqlite.specs.Order.{Row}
use Rattle.sqlite.specs.State.{HasCleanDisk}
use Rattle.sqlite.specs.Store.{Ghosts}
use Rattle.sqlite.specs.Table.{Table}
use Rattle.sqlite.specs.View.{doubt}
use Rattle.row_table.specs.Stored.{rows_of, IsRowStore}
use Rattle.row_table.specs.Tables.{no_schema}

-- it is empty, or has the two tables and the rows of the hub
abbrev pub IsOwnStore : Database → Type 0
IsOwnStore db = (db.schema ≡ no_schema) ⊎ IsRowStore db

-- The rows of a tree of the database, where there are these tables, and else none
abbrev pub rows_under : List Table → List Row → Rows
rows_under [] tree = no_rows
rows_under (t ∷ ts) tree = rows_of tree

-- The rows of the hub in a database: those of the table `row`, where it has tables
abbrev pub rows_in : Database → Rows
rows_in db = rows_under db.schema.tables (db.trees 0)

-- ---- `IsTold` and `is_told` below say the same: the proof of the law `decides` of `Keeper`, which a source cites, and so stands here

pub decided : {n : ℕ} {a b : Bool} → (n ≡ 0) × IsTrue a × IsTrue b → IsTrue ((n == 0) && (a && b))
decided (clean, is_open, own) = search rules

pub undecided : {n : ℕ} {a b : Bool} → IsTrue ((n == 0) && (a && b)) → (n ≡ 0) × IsTrue a × IsTrue b
undecided told = search rules

-- ---- what is told

module _ {S : Type 0} (g : Ghosts S) where
  -- The connection is in no transaction, and its store is one of this keeper, unless the disk isn't clean or the connection is shut
  pub record IsOwned (h : Held S) : Type 0 where
    pub autocommit : h.in_transaction ≡ false
    pub store : HasCleanDisk (state g h) → IsTrue (state g h).is_open → IsOwnStore (state g h).now

  -- The rows are told while the connection is open, the disk has given back what was written, and the store was found to be one of this
  -- keeper (`is_own`)
  abbrev pub IsTold : Held S → Bool → Type 0
  IsTold h is_own = HasCleanDisk (state g h) × IsTrue (state g h).is_open × IsTrue is_own

  -- The same as a truth value. The database counts what it has to doubt of the disk, and a clean disk has no doubt
  abbrev pub is_told : Held S → Bool → Bool
  is_told h is_own = (doubt (state g h).is_clean == 0) && ((state g h).is_open && is_own)

  -- The rows that are told
  abbrev pub told_rows : Held S → Rows
  told_rows h = rows_in (state g h).now

  -- These are all rows of the store, which has tables, in order, unless the disk isn't clean or the connection is shut
  abbrev pub AreAll : Held S → List Kept → Type 0
  AreAll h all = HasCleanDisk (state g h) → IsTrue (state g h).is_open → IsRowStore (state g h).now × Lists (told_rows h) all

  -- the disk failed, which was counted, and that shut the connection
  abbrev pub IsShutByFault : Held S → Held S → Type 0
  IsShutByFault old new = ((state g new).is_open ≡ false) × MoreFaults (state g old).faults (state g new).faults

  -- The store is as it was, unless it is shut
  abbrev pub Stands : Held S → Held S → Type 0
  Stands old new = IsTrue (state g new).is_open → IsTrue (state g old).is_open × ((state g new).now ≡ (state g old).now)
