use Rattle.std.proofs.Common.{◌≡◌, ◌+◌, drop}
use Rattle.keeper.specs.Costs.{batch_cost}
use Rattle.hub_machine.proofs.batch.items_cost.Given as goal

abbrev pub invariant-loop-item : goal.invariant-loop-item
invariant-loop-item l = l.cost + batch_cost (drop l.item-index l.items) ≡ batch_cost l.items
