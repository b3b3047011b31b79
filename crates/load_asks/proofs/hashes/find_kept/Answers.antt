use Rattle.std.proofs.Common.{refl, arith}
use Rattle.load_asks.proofs.HashLemmas.{keeps_more, apart_more, among_at}
use Rattle.load_asks.proofs.hashes.find_kept.Goals as goal

pub returns-in-Ok-false : goal.returns-in-Ok-false
returns-in-Ok-false c = (
  c.loop-k.k,
  refl,
  omega (arith, c.loop-k-test.true),
  among_at c.loop-k.kept c.loop-k.k c.in_ok-hash.hash c.in_ok-hash.ensures c.loop-k.invariant.keeps (cc (c.in-Ok-false.field-0-test, c.in-Ok-false.ensures.added)),
  c.loop-k.invariant.apart,
)

pub loop-k-preserved : goal.loop-k-preserved
loop-k-preserved c = record {
  keeps = keeps_more c.loop-k.kept c.insert.new.self c.loop-k.k c.in_ok-hash.hash c.in_ok-hash.ensures c.loop-k.invariant.keeps c.in-Ok-true.ensures.updates;
  apart = apart_more c.loop-k.kept c.loop-k.k c.in_ok-hash.hash c.in_ok-hash.ensures c.loop-k.invariant.keeps
      (cc (c.in-Ok-true.field-0-test, c.in-Ok-true.ensures.added)) c.loop-k.invariant.apart;
}
