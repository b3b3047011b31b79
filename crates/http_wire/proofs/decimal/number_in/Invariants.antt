use Rattle.std.proofs.Common.{◌≡◌, drop, Some}
use Rattle.http_wire.proofs.DecimalLemmas.{read_on}
use Rattle.http_wire.proofs.decimal.number_in.Given as goal

abbrev pub invariant-loop-b : goal.invariant-loop-b
invariant-loop-b l = read_on l.number (drop l.b-index l.bytes) ≡ read_on (Some 0) l.bytes
