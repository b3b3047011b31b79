use Rattle.std.proofs.Common.{◌≡◌, ◌-◌, ◌++◌, take, replicate}
use Rattle.hub_kit.proofs.short_text.padded.Given as goal

abbrev pub invariant-loop-i : goal.invariant-loop-i
invariant-loop-i l = l.cells ≡ take l.i l.bytes ++ replicate (64 - l.i) 0
