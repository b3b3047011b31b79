use Rattle.std.proofs.Common.{◌≡◌, drop}
use Rattle.hub_api.specs.Bodies.{are_distinct}
use Rattle.hub_api.proofs.parts.are_distinct.Given as goal

abbrev pub invariant-loop-i : goal.invariant-loop-i
invariant-loop-i l = are_distinct (drop l.i l.names) ≡ are_distinct l.names
