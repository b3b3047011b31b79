use Rattle.std.proofs.Common.{◌≡◌, ◌++◌, drop}
use Rattle.keyed_rows.specs.Sorted.{without_keys}
use Rattle.keyed_rows.proofs.sorted.remaining.Given as goal

abbrev pub invariant-loop-key : goal.invariant-loop-key
invariant-loop-key g l = l.left.items ++ without_keys g.K.Ord.cmp l.gone (drop l.key-index l.keys) ≡ without_keys g.K.Ord.cmp l.fn.gone l.fn.keys
