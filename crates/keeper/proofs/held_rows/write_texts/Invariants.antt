use Rattle.std.proofs.Common.{length, map}
use Rattle.keyed_rows.specs.Rows.{map_of}
use Rattle.keeper.specs.RowOrder.{key_cmp}
use Rattle.keeper.specs.Rows.{AreSame}
use Rattle.keeper.specs.Held.{held, after_steps, HaveRoom}
use Rattle.keeper.proofs.held_rows.write_texts.Given as goal

abbrev pub invariant-loop-step : goal.invariant-loop-step
invariant-loop-step l =
    HaveRoom (map_of key_cmp l.rows) (map (λ step. step.at) l.left.items)
    × AreSame (after_steps l.left.items (held (map_of key_cmp l.rows))) (after_steps l.fn.steps.items (held (map_of key_cmp l.initial.rows)))

abbrev pub decreases-loop-step : goal.decreases-loop-step
decreases-loop-step l = length l.left.items
