use Rattle.std.proofs.Common.{◌≡◌, drop}
use Rattle.row_indexes.specs.Numbers.{number_from, number_of}
use Rattle.row_indexes.proofs.numbers.number_of.Given as goal

abbrev pub invariant-loop-byte : goal.invariant-loop-byte
invariant-loop-byte l = number_from l.number (drop l.byte-index l.bytes) ≡ number_of l.bytes
