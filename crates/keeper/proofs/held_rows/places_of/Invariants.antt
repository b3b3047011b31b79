use Rattle.std.proofs.Common.{◌≡◌, take, map}
use Rattle.keeper.specs.Held.{step_of}
use Rattle.keeper.proofs.held_rows.places_of.Given as goal

abbrev pub invariant-loop-item : goal.invariant-loop-item
invariant-loop-item l = l.places.items ≡ map (λ item. (step_of item).at) (take l.item-index l.items)
