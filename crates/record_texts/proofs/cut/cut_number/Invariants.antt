use Rattle.std.proofs.Common.{◌≡◌, ◌-◌, ◌<◌, ◌≤◌, length, take, decimal}
use Rattle.record_texts.proofs.cut.cut_number.Given as goal

abbrev pub invariant-digits : goal.invariant-digits
invariant-digits l = (decimal l.number ≡ take l.at l.text) × (0 < l.number) × (l.at ≤ length l.text)

abbrev pub decreases-digits : goal.decreases-digits
decreases-digits l = length l.text - l.at
