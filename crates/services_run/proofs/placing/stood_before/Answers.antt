use Rattle.std.proofs.Common.{ℕ, arith}
use Rattle.services_run.specs.New.{ClashAt}
use Rattle.services_run.proofs.NewLemmas.{below_more, clash_is, clash_same, not_both}
use Rattle.services_run.proofs.placing.stood_before.Goals as goal

pub befores-preserved : goal.befores-preserved
befores-preserved c = record {
  within = omega (arith, c.befores-test.true);
  none = below_more (λ (j : ℕ). ClashAt c.args.list.now j c.args.at) c.befores.before c.befores.invariant.none
      (λ x. not_both c.clashes.result (c.clashes.ensures.1 (clash_same _ _ _ _ c.index-list-before.is c.index-list-at.is (clash_is c.args.list.now c.befores.before c.args.at c.index-list-before.result c.index-list-at.result
      (omega (arith, c.requires, c.befores-test.true)) c.requires x))) c.if-clashes.false);
}

pub returns : goal.returns
returns c = (λ t. cc, λ r. absurd (c.befores.invariant.none r.0 (omega (arith, c.befores-test.false, r.1)) r.2))
