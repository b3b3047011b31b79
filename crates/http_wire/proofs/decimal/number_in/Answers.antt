use Rattle.std.proofs.Common.{◌<◌, length, arith, ap, sym, ◌∙◌}
use Rattle.std.proofs.lemmas.Bool.Decides.{nat_tests}
use Rattle.http_wire.proofs.DecimalLemmas.{settled, read_ended}
use Rattle.http_wire.proofs.decimal.number_in.Goals as goal

pub returns-in-Some : goal.returns-in-Some
returns-in-Some c =
    let some : 0 < length c.args.bytes.now = grind (arith, nat_tests) in
    ap settled (sym c.in-Some.is) ∙ read_ended c.loop-b.number c.args.bytes.now c.loop-b.b-index (omega arith) some c.loop-b.invariant

pub returns-in-None : goal.returns-in-None
returns-in-None c =
    let some : 0 < length c.args.bytes.now = grind (arith, nat_tests) in
    ap settled (sym c.in-None.is) ∙ read_ended c.loop-b.number c.args.bytes.now c.loop-b.b-index (omega arith) some c.loop-b.invariant
