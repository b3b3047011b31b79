use Rattle.std.proofs.Common.{sym, ◌∙◌}
use Rattle.hub_lives.proofs.Holders.{place_found, not_yet, nowhere}
use Rattle.hub_lives.proofs.lives.place_of.Goals as goal

pub returns-then-eq : goal.returns-then-eq
returns-then-eq c =
    place_found c.args.pool.now c.loop-place.place c.index-pool-place.result c.args.target.now c.loop-place-test.true c.index-pool-place.is (sym c.eq.ensures ∙ c.if-eq.true)

pub loop-place-preserved : goal.loop-place-preserved
loop-place-preserved c =
    not_yet c.args.pool.now c.loop-place.place c.index-pool-place.result c.args.target.now c.loop-place-test.true c.index-pool-place.is (sym c.eq.ensures ∙ c.if-eq.false) c.loop-place.invariant

pub returns : goal.returns
returns c = nowhere c.args.pool.now c.loop-place.place c.args.target.now c.loop-place-test.false c.loop-place.invariant
