-- Each row of the tables stands under its own key.
use Rattle.std.specs.Prelude.{◌≡◌, Some}
use Rattle.hub_rows.specs.RowKeys.{key_of}
use Rattle.hub_rows.specs.declared.rows.Row.{Row}
use Rattle.hub_rows.specs.declared.rows.RowKey.{RowKey}
use Rattle.hub_tables.specs.Changes.{row_at}
use Rattle.hub_tables.specs.State.{State}

abbrev pub AreOwn : State → Type 0
AreOwn s = (key : RowKey) (row : Row) → row_at s key ≡ Some row → key_of row ≡ key
