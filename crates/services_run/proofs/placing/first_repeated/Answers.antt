use Rattle.std.proofs.Common.{◌<◌, ℕ, length, arith}
use Rattle.services_run.specs.New.{IsRepeated}
use Rattle.services_run.proofs.NewLemmas.{below_more, read_within, not_both}
use Rattle.services_run.proofs.placing.first_repeated.Goals as goal

pub places-preserved : goal.places-preserved
places-preserved c = record {
  within = omega (arith, c.places-test.true);
  none = below_more (λ (i : ℕ). IsRepeated c.args.list.now i) c.places.at c.places.invariant.none
      (λ x. not_both c.stood_before.result (c.stood_before.ensures.1 x) c.if-stood_before.false);
}

pub returns : goal.returns
returns c i r =
    let within : i < length c.args.list.now = read_within c.args.list.now i r.2.1 r.2.3 in
    c.places.invariant.none i (omega (arith, within, c.places-test.false)) r
