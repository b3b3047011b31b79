use Rattle.std.proofs.Common.{◌≡◌, drop}
use Rattle.keyed_rows.specs.Sorted as spec
use Rattle.keyed_rows.proofs.sorted.rises_from.Given as goal

abbrev pub invariant-loop-key : goal.invariant-loop-key
invariant-loop-key g l = spec.rises_from g.K.Ord.cmp l.last (drop l.key-index l.keys) ≡ spec.rises_from g.K.Ord.cmp l.fn.first l.fn.keys
