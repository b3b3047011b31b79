use Rattle.std.proofs.Common.{◌≡◌, drop}
use Rattle.overruled.specs.Overruled.{other_members}
use Rattle.overruled.proofs.kept.other_members.Given as goal

abbrev pub invariant-loop-group : goal.invariant-loop-group
invariant-loop-group l = other_members (drop l.group-index l.fn.groups) l.fn.kept ≡ other_members l.fn.groups l.fn.kept
