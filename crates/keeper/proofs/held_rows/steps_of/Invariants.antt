use Rattle.std.proofs.Common.{◌≡◌, take, map}
use Rattle.keeper.specs.Held.{step_of}
use Rattle.keeper.proofs.held_rows.steps_of.Given as goal

abbrev pub invariant-loop-item : goal.invariant-loop-item
invariant-loop-item l = l.steps.items ≡ map step_of (take l.item-index l.items)
