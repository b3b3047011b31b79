use Rattle.std.proofs.Common.{sym, arith}
use Rattle.http_wire.proofs.TookLemmas.{Took_as, Took_then}
use Rattle.http_wire.proofs.heads.read_until_head.Goals as goal

pub returns-in-Err-clause-err : goal.returns-in-Err-clause-err
returns-in-Err-clause-err g c =
    let look = rw c.in-None.is at c.in_ok-head.ensures.none in
    (Took_then _ _ _ _ _ _ (Took_as _ _ _ _ _ c.reads.invariant.took (sym look.0)) c.read_more.ensures.took, c.in-Err.ensures.err)

pub reads-preserved : goal.reads-preserved
reads-preserved g c =
    let look = rw c.in-None.is at c.in_ok-head.ensures.none in record {
      took = Took_then _ _ _ _ _ _ (Took_as _ _ _ _ _ c.reads.invariant.took (sym look.0)) c.read_more.ensures.took;
      counted = omega (arith, c.reads.invariant.counted, c.read_more.ensures.counted);
    }
