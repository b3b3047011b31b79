use Rattle.std.proofs.Common.{◌≡◌, drop}
use Rattle.overruled.specs.Overruled.{are_among}
use Rattle.overruled.proofs.kept.are_among.Given as goal

abbrev pub invariant-loop-name : goal.invariant-loop-name
invariant-loop-name l = are_among (drop l.name-index l.fn.names) l.fn.others ≡ are_among l.fn.names l.fn.others
