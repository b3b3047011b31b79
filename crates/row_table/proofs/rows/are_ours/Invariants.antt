use Rattle.std.proofs.Common.{drop}
use Rattle.row_table.specs.Ours.{AreOurs, AreOursAbove}
use Rattle.row_table.proofs.rows.are_ours.Given as goal

-- those that are left are rows of the hub above the last one exactly where all are
abbrev pub invariant-loop-row : goal.invariant-loop-row
invariant-loop-row l = (AreOursAbove l.last (drop l.row-index l.rows) → AreOurs l.rows) × (AreOurs l.rows → AreOursAbove l.last (drop l.row-index l.rows))
