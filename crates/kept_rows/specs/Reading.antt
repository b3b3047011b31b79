-- Which rows of a keeper are rows of records, and which is the first that isn't.
use Rattle.std.specs.Prelude.{◌≡◌, ℕ, Bool, ◌&&◌, nat_le, List, [], ◌∷◌, ◌++◌, Result, Ok, Err, ⊤}
use Rattle.hub_rows.specs.RowKeys.{key_of}
use Rattle.hub_rows.specs.declared.rows.Row.{Row}
use Rattle.keeper.specs.declared.keeper.Row.{Row as KeptRow}
use Rattle.record_texts.specs.Items.{kind_of, key_text, object_of, IsRow}
use Rattle.record_texts.specs.Rows.{row_with}
use Rattle.record_texts.specs.declared.record.RowError.{RowError}
use Rattle.record_texts.specs.declared.record.RowError.TheVariants.{BadRow, Memory}

-- the kinds are numbered from 1 to 12
abbrev pub is_kind : ℕ → Bool
is_kind number = nat_le 1 number && nat_le number 12

-- what a keeper has for a row of the tables
abbrev pub kept_as : Row → KeptRow
kept_as row = row_with (kind_of (key_of row)) (key_text (key_of row)) (object_of row)

-- this is the row that is kept so
pub record IsReadAs (kept : KeptRow) (row : Row) : Type 0 where
  pub same : kept_as row ≡ kept
  pub valid : IsRow row

-- one by one, in order
abbrev pub AreReadAs : List KeptRow → List Row → Type 0
AreReadAs [] [] = ⊤
AreReadAs (k ∷ kept) (row ∷ rows) = IsReadAs k row × AreReadAs kept rows
AreReadAs [] (row ∷ rows) = ⊥
AreReadAs (k ∷ kept) [] = ⊥

-- no row is kept so
abbrev pub IsUnread : KeptRow → Type 0
IsUnread kept = (row : Row) → IsReadAs kept row → ⊥

-- the first that no row is kept as has this kind and key: those before it are read
pub record IsFirstUnread (kept : List KeptRow) (number : ℕ) (name : List ℕ) : Type 0 where
  pub before : List KeptRow
  pub bad : KeptRow
  pub after : List KeptRow
  pub rows : List Row
  pub parts : kept ≡ before ++ bad ∷ after
  pub read : AreReadAs before rows
  pub unread : IsUnread bad
  pub kind : bad.kind ≡ number
  pub key : bad.key ≡ name

-- ---- what reading gives, unless memory was wanting

-- of one: its row, or its kind and key exactly where there is none
abbrev pub IsReading : KeptRow → Result Row RowError → Type 0
IsReading kept (Ok row) = IsReadAs kept row
IsReading kept (Err (BadRow number name)) = IsUnread kept × (kept.kind ≡ number) × (kept.key ≡ name)
IsReading kept (Err Memory) = ⊤

-- of all: their rows in order, or the kind and key of the first that has none
abbrev pub AreReading : List KeptRow → Result (List Row) RowError → Type 0
AreReading kept (Ok rows) = AreReadAs kept rows
AreReading kept (Err (BadRow number name)) = IsFirstUnread kept number name
AreReading kept (Err Memory) = ⊤
