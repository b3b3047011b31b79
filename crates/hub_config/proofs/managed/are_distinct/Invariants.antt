use Rattle.std.proofs.Common.{◌≡◌, drop}
use Rattle.hub_config.specs.Managed.{are_distinct}
use Rattle.hub_config.proofs.managed.are_distinct.Given as goal

abbrev pub invariant-loop-i : goal.invariant-loop-i
invariant-loop-i l = are_distinct (drop l.i l.fn.services) ≡ are_distinct l.fn.services
