use Rattle.std.proofs.Common.{◌≡◌, drop}
use Rattle.hub_tables.specs.Changes.{rows_done, removals_of}
use Rattle.table_changes.proofs.staged.settle.Given as goal

abbrev pub invariant-loop-row : goal.invariant-loop-row
invariant-loop-row l = rows_done (removals_of (drop l.row-index l.rows)) l.tables ≡ rows_done (removals_of l.rows) l.initial.tables
