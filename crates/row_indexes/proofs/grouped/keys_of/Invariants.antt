use Rattle.std.specs.Map.{keys_of}
use Rattle.std.specs.Ordering.{eq_by_cmp}
use Rattle.row_indexes.proofs.Walked.{Walking}
use Rattle.row_indexes.proofs.grouped.keys_of.Given as goal

abbrev pub invariant-loop-key : goal.invariant-loop-key
invariant-loop-key g l = Walking (λ key. eq_by_cmp g.O.Ord.cmp (g.K.Grouped.owner_of key) l.owner) (keys_of l.rows.entries) l.keys.items l.key-iterator
