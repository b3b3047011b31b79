-- The way back from puts.
use Rattle.std.specs.Prelude.{◌≡◌, true, List, [], ◌∷◌, reverse}
use Rattle.hub_rows.specs.RowKeys.{is_put}
use Rattle.hub_rows.specs.declared.changes.RowChange.{RowChange}
use Rattle.hub_tables.specs.Changes.{row_done, rows_done, has_row, FitsRow}
use Rattle.hub_tables.specs.State.{State}

-- it may be done, and needs no memory
pub record IsFree (b : RowChange) (t : State) : Type 0 where
  pub fits : FitsRow t b
  pub there : is_put b ≡ true → has_row t b ≡ true

-- each may be done after those before it, and needs no memory
abbrev pub AreFree : List RowChange → State → Type 0
AreFree [] t = Unit {0}
AreFree (b ∷ bs) t = IsFree b t × AreFree bs (row_done b t)

-- the steps of a log, the last of them first, lead back to the tables before, and need no memory
pub record LeadsBack (log : List RowChange) (t before : State) : Type 0 where
  pub free : AreFree (reverse log) t
  pub back : rows_done (reverse log) t ≡ before
