use Rattle.std.proofs.Common.{◌≡◌, reverse}
use Rattle.hub_tables.specs.Changes.{rows_done}
use Rattle.table_changes.specs.Staged.{AreFree}
use Rattle.table_changes.proofs.staged.undo.Given as goal

abbrev pub invariant-loop-back : goal.invariant-loop-back
invariant-loop-back l = record {
  free : AreFree (reverse l.log.items) l.tables;
  back : rows_done (reverse l.log.items) l.tables ≡ rows_done (reverse l.initial.log.items) l.initial.tables;
}

abbrev pub decreases-loop-back : goal.decreases-loop-back
decreases-loop-back l = goal.left-loop-back l
