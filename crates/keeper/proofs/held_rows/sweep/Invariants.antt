use Rattle.keyed_rows.specs.Rows.{map_of}
use Rattle.keeper.specs.RowOrder.{key_cmp}
use Rattle.keeper.specs.Rows.{AreSame}
use Rattle.keeper.specs.Held.{held}
use Rattle.keeper.proofs.held_rows.sweep.Given as goal

abbrev pub invariant-loop-place : goal.invariant-loop-place
invariant-loop-place l = AreSame (held (map_of key_cmp l.rows)) (held (map_of key_cmp l.initial.rows))
