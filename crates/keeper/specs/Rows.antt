-- The rows that a keeper holds: the text of each kind and key that has one.
use Rattle.std.specs.Prelude.{◌≡◌, ℕ, ◌==◌, Bool, true, false, ◌&&◌, List, [], ◌∷◌, map, bytes_eq, Option, Some, None, Result, Ok, Err}
use Rattle.std.specs.Prelude.{if◌then◌else◌}
use Rattle.std.specs.Borrow.{Bor}
use Rattle.std.specs.List.Sorted.{IsStrictlySortedBy}
use Rattle.std.specs.Ordering.{nat_cmp, ordering_then}
use Rattle.std.specs.declared.cmp.Ordering.{Ordering}
use Rattle.hub_kit.specs.KeyOrder.{name_cmp}
use Rattle.keeper.specs.declared.keeper.Item.{Item}
use Rattle.keeper.specs.declared.keeper.Item.TheVariants.{Put, Delete}
use Rattle.keeper.specs.declared.keeper.KeeperError.{KeeperError}
use Rattle.keeper.specs.declared.keeper.KeeperError.TheVariants.{Failed, Memory}
use Rattle.keeper.specs.declared.keeper.Row.{Row}

-- The text that is kept under each kind and key, if one is
abbrev pub Rows : Type 0
Rows = ℕ → List ℕ → Option (List ℕ)

-- The two keep the same text under each kind and key, or both none
abbrev pub AreSame : Rows → Rows → Type 0
AreSame a b = (kind : ℕ) (key : List ℕ) → a kind key ≡ b kind key

-- whether two kinds and keys are the same
abbrev pub is_at : ℕ → List ℕ → ℕ → List ℕ → Bool
is_at kind key other_kind other_key = (kind == other_kind) && bytes_eq key other_key

-- this text, or none, under a kind and a key, and all else as it was
abbrev pub with_text : ℕ → List ℕ → Option (List ℕ) → Rows → Rows
with_text kind key text rows other_kind other_key =
    if is_at kind key other_kind other_key then text else rows other_kind other_key

-- The rows after an item: its row is put, or the row of its kind and key goes
abbrev pub after_item : Item → Rows → Rows
after_item (Put row) rows = with_text row.kind row.key (Some row.text) rows
after_item (Delete kind key) rows = with_text kind key None rows

-- the rows after these items, done in order
abbrev pub after_items : List Item → Rows → Rows
after_items [] rows = rows
after_items (item ∷ items) rows = after_items items (after_item item rows)

-- No row is kept
abbrev pub no_rows : Rows
no_rows kind key = None

-- the rows of a list, of which a later one replaces an earlier one
abbrev pub rows_of : List Row → Rows
rows_of rows = after_items (map Put rows) no_rows

-- The order of rows: by the kind, and then by the bytes of the key
abbrev pub row_cmp : Row → Row → Ordering
row_cmp a b = ordering_then (nat_cmp a.kind b.kind) (name_cmp a.key b.key)

-- these are all the rows, in order
pub record Lists (rows : Rows) (listed : List Row) : Type 0 where
  pub in_order : IsStrictlySortedBy row_cmp listed
  pub same : AreSame (rows_of listed) rows

-- The place that is given, if one is
abbrev pub place_of : Option (Bor (List ℕ)) → Option (List ℕ)
place_of None = None
place_of (Some place) = Some place.now

-- whether a call was refused for a fault of the keeper
abbrev pub is_failed : {A : Type 0} → Result A KeeperError → Bool
is_failed (Ok a) = false
is_failed (Err Failed) = true
is_failed (Err Memory) = false
