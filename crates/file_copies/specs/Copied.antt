-- What one file has of a file and its log.
use Rattle.std.specs.Prelude.{◌≡◌, ℕ, List, []}
use Rattle.sqlite_trees.specs.Tree.{Trees}
use Rattle.sqlite_wal.specs.Recovery.{Image}
use Rattle.sqlite.specs.Files.{AreFoundIn, HoldsDatabase}

-- the bytes of a log and of its file
abbrev pub image : (log db : List ℕ) → Image
image log db = record { log = log; db = db }

-- This file, with no log beside it, holds the database that an opening finds in that file and its log
pub record HasAll (log db file : List ℕ) : Type 0 where
  pub trees : Trees
  pub found : AreFoundIn (image log db) trees
  pub only : (held : Trees) → HoldsDatabase (image log db) held → trees ≡ held
  pub alone : ∥ HoldsDatabase (image [] file) trees ∥₁
