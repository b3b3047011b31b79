-- The batch of a change, and what it costs.
use Rattle.std.specs.Prelude.{ℕ, List, ◌++◌, map}
use Rattle.hub_rows.specs.declared.changes.RowChange.{RowChange}
use Rattle.keeper.specs.declared.keeper.Item.{Item}
use Rattle.keeper.specs.Costs as costs
use Rattle.hub_tables.specs.Changes.{puts_of, removals_of}
use Rattle.record_texts.specs.Items.{item_of}

-- its puts, and then its removals
abbrev pub batch_of : List RowChange → List Item
batch_of rows = map item_of (puts_of rows) ++ map item_of (removals_of rows)

-- the bytes of the keys and texts of its batch
abbrev pub batch_cost : List RowChange → ℕ
batch_cost rows = costs.batch_cost (batch_of rows)
