-- The batch of a change, once it is written.
use Rattle.std.specs.Prelude.{◌≡◌, List, Option, Some, None, All}
use Rattle.hub_rows.specs.declared.changes.RowChange.{RowChange}
use Rattle.hub_tables.specs.Changes.{puts_of, removals_of}
use Rattle.record_texts.specs.Items.{IsValid}
use Rattle.hub_machine.specs.Apply.{rows_of}
use Rattle.hub_machine.specs.Batches.{batch_of, batch_cost}
use Rattle.hub_machine.specs.declared.change.Change.{Change}
use Rattle.hub_machine.specs.declared.planned.Written.{Written}

-- the batch of these rows, which are all valid, and what it costs
pub record IsOfRows (rows : List RowChange) (w : Written) : Type 0 where
  pub batch : w.batch ≡ batch_of rows
  pub cost : w.cost ≡ batch_cost rows
  pub puts : All IsValid (puts_of rows)
  pub removals : All IsValid (removals_of rows)

-- What was written is the batch of the change, and its cost
abbrev pub IsWritten : Change → Written → Type 0
IsWritten c w = IsOfRows (rows_of c) w

-- What was written before, if anything, is the batch of the change
abbrev pub IsAsWritten : Change → Option Written → Type 0
IsAsWritten c None = Unit {0}
IsAsWritten c (Some w) = IsWritten c w
