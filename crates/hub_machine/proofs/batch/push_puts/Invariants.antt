use Rattle.std.proofs.Common.{◌≡◌, ◌++◌, All, drop, map}
use Rattle.hub_tables.specs.Changes.{puts_of}
use Rattle.record_texts.specs.Items.{item_of, IsValid}
use Rattle.hub_machine.proofs.batch.push_puts.Given as goal

abbrev pub invariant-loop-row : goal.invariant-loop-row
invariant-loop-row l = record {
  items : l.items.items ++ map item_of (puts_of (drop l.row-index l.rows)) ≡ l.initial.items.items ++ map item_of (puts_of l.rows);
  valid : All IsValid (puts_of (drop l.row-index l.rows)) → All IsValid (puts_of l.rows);
}
