use Rattle.std.proofs.Common.{take}
use Rattle.kept_rows.specs.Reading.{AreReadAs}
use Rattle.kept_rows.proofs.reading.read_rows.Given as goal

abbrev pub invariant-loop-one : goal.invariant-loop-one
invariant-loop-one l = AreReadAs (take l.one-index l.one-items) l.rows.items
