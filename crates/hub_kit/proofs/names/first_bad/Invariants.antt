use Rattle.std.proofs.Common.{◌≡◌, drop}
use Rattle.hub_kit.specs.Names.{bad_from, first_bad}
use Rattle.hub_kit.proofs.names.first_bad.Given as goal

abbrev pub invariant-loop-i : goal.invariant-loop-i
invariant-loop-i l = bad_from l.i (drop l.i l.bytes) ≡ first_bad l.bytes
