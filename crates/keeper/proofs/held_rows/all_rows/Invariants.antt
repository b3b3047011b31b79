use Rattle.std.proofs.Common.{◌≡◌, ◌++◌}
use Rattle.keeper.specs.Held.{rows_in}
use Rattle.keeper.proofs.held_rows.all_rows.Given as goal

abbrev pub invariant-loop-at : goal.invariant-loop-at
invariant-loop-at l = l.all.items ++ rows_in l.at-iterator ≡ rows_in l.rows.entries
