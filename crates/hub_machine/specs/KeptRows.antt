-- A keeper has exactly the rows of the tables.
use Rattle.std.specs.Prelude.{◌≡◌, ℕ, List, Some, ◌↔◌}
use Rattle.hub_rows.specs.declared.rows.Row.{Row}
use Rattle.hub_rows.specs.declared.rows.RowKey.{RowKey}
use Rattle.hub_tables.specs.Changes.{row_at}
use Rattle.hub_tables.specs.State.{State}
use Rattle.keeper.specs.Rows.{Rows}
use Rattle.record_texts.specs.Items.{kind_of, key_text, row_text, IsKey}

-- the tables have a row whose kind, key and text are these
pub record HasText (t : State) (number : ℕ) (name text : List ℕ) : Type 0 where
  pub key : RowKey
  pub row : Row
  pub there : row_at t key ≡ Some row
  pub kind : kind_of key ≡ number
  pub named : key_text key ≡ name
  pub says : row_text row ≡ text

-- The keeper has exactly the rows of the tables
pub record Keeps (kept : Rows) (t : State) : Type 0 where
  -- a text is kept under a kind and a key exactly where the tables have that row, and this is its text
  pub exactly : (kind : ℕ) (name text : List ℕ) → (kept kind name ≡ Some text) ↔ HasText t kind name text
  -- each key is a valid one: different valid keys have different texts
  pub keys : (key : RowKey) (row : Row) → row_at t key ≡ Some row → IsKey key
