use Rattle.std.proofs.Common.{◌≡◌, length}
use Rattle.http_wire.specs.Words.{words}
use Rattle.http_wire.proofs.words.next_word.Given as goal

abbrev pub invariant-parts : goal.invariant-parts
invariant-parts l = words l.rest ≡ words l.fn.bytes

abbrev pub decreases-parts : goal.decreases-parts
decreases-parts l = length l.rest
