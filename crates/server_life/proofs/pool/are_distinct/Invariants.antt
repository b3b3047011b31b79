use Rattle.std.proofs.Common.{◌≡◌, drop}
use Rattle.server_life.specs.Pools.{are_distinct}
use Rattle.server_life.proofs.pool.are_distinct.Given as goal

abbrev pub invariant-loop-i : goal.invariant-loop-i
invariant-loop-i l = are_distinct (drop l.i l.targets) ≡ are_distinct l.targets
