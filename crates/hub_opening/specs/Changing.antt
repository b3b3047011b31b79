-- Tables that are changed, and the items that bring a keeper along.
use Rattle.keeper.specs.Rows.{Rows, after_items}
use Rattle.hub_machine.specs.KeptRows.{Keeps}
use Rattle.hub_opening.specs.declared.changed.Changed.{Changed}

-- a keeper that has the rows of the tables once its items are done has them still after the later items
abbrev pub Leads : (before after : Changed) → Type 0
Leads before after = (has : Rows) → Keeps (after_items before.batch has) before.tables → Keeps (after_items after.batch has) after.tables
