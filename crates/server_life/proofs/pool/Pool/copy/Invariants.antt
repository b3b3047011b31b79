use Rattle.std.proofs.Common.{◌≡◌, take}
use Rattle.server_life.proofs.pool.Pool.copy.Given as goal

abbrev pub invariant-loop-target : goal.invariant-loop-target
invariant-loop-target l = l.targets.items ≡ take l.target-index l.target-items
