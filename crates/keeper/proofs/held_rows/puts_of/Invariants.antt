use Rattle.std.proofs.Common.{◌≡◌, map}
use Rattle.keeper.specs.declared.keeper.Item.TheVariants.{Put}
use Rattle.keeper.proofs.held_rows.puts_of.Given as goal

abbrev pub invariant-loop-row : goal.invariant-loop-row
invariant-loop-row l = l.items.items ≡ map Put l.yielded
