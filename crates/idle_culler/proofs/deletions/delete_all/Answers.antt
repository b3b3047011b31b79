use Rattle.std.proofs.Common.{refl, arith}
use Rattle.idle_culler.proofs.LoopLemmas.{deleting_none, deleting_more, deleting_whole, deleting_broken}
use Rattle.idle_culler.proofs.deletions.delete_all.Goals as goal

pub all-init : goal.all-init
all-init g c = record {
  done = deleting_none g.H.HubLink.asked g.H.HubLink.does c.args.link.now c.args.token.now c.args.remove c.args.culls.now;
  sum = refl;
  counted = omega arith;
}

pub all-preserved : goal.all-preserved
all-preserved g c = record {
  done = deleting_more g.H.HubLink.asked g.H.HubLink.does c.args.link.now c.all.link c.delete_one.new.link c.args.token.now c.args.remove c.args.culls.now c.all.cull-index
      c.all.counts c.count_one-counts.result c.cull-item.result c.in-Ok.done c.all.invariant.done c.all-test.true c.cull-item.is c.in-Ok.ensures.ok c.count_one-counts.ensures.culled c.count_one-counts.ensures.refused;
  sum = omega (arith, c.all.invariant.sum, c.count_one-counts.ensures.sum);
  counted = omega (arith, c.all.invariant.counted, c.delete_one.ensures.counted);
}

pub returns-clause-ok : goal.returns-clause-ok
returns-clause-ok g c =
    deleting_whole g.H.HubLink.asked g.H.HubLink.does c.args.link.now c.all.link c.args.token.now c.args.remove c.args.culls.now c.all.cull-index c.all.counts
    c.all.invariant.done (omega (arith, c.all-test.false))

pub returns-in-Err-clause-err : goal.returns-in-Err-clause-err
returns-in-Err-clause-err g c =
    deleting_broken g.H.HubLink.asked g.H.HubLink.does c.args.link.now c.all.link c.delete_one.new.link c.args.token.now c.args.remove c.args.culls.now c.all.cull-index
    c.all.counts.culled c.all.counts.refused c.cull-item.result c.in-Err.fault c.all.invariant.done c.all-test.true c.cull-item.is c.in-Err.ensures.err
