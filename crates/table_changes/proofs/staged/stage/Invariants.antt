use Rattle.std.proofs.Common.{◌≡◌, drop}
use Rattle.hub_tables.specs.Changes.{rows_done, puts_of, FitAll}
use Rattle.table_changes.specs.Staged.{LeadsBack}
use Rattle.table_changes.proofs.staged.stage.Given as goal

abbrev pub invariant-loop-row : goal.invariant-loop-row
invariant-loop-row l = record {
  done : rows_done (puts_of (drop l.row-index l.rows)) l.tables ≡ rows_done (puts_of l.rows) l.fn.tables;
  leads : LeadsBack l.log.items l.tables l.fn.tables;
  fit : FitAll (drop l.row-index l.rows) l.tables;
}
