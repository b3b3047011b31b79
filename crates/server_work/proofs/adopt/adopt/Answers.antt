use Rattle.std.proofs.Common.{rules, ◌≡◌, ◌+◌, ◌≤◌, ℕ, List, [], ◌∷◌, ◌++◌, length, take, refl, sym, ap, add-one, ◌∙◌, subst, arith}
use Rattle.std.proofs.Math.Seq.{take-suc, take-length}
use Rattle.server_work.specs.declared.work.Work.{Work}
use Rattle.server_work.specs.Gains.{gain_of}
use Rattle.server_work.specs.Adoptions.{Adoptions}
use Rattle.server_work.proofs.Gaining.{adoptions_more, adoptions_gain, readies_more, stops_more, parks_more}
use Rattle.server_work.proofs.adopt.adopt.Goals as goal

pub loop-work-init : goal.loop-work-init
loop-work-init g c = record { of = c.requires.of; few = omega arith; ends = ([], [], refl, refl, refl, refl); spawner_counted = omega arith; routes_counted = omega arith }

pub loop-work-preserved : goal.loop-work-preserved
loop-work-preserved g c =
    let e = c.loop-work.invariant.ends in
    let w = c.work-item.result in
    let told = c.drive-told.result in
    let d = c.drive-told.ensures.ends in
    let n = c.with-adopted.ensures in
    let below = c.loop-work-test.true in
    let at : take (c.loop-work.work-index + 1) c.args.works.now ≡ take c.loop-work.work-index c.args.works.now ++ w ∷ [] =
    ap (λ n. take n c.args.works.now) (add-one c.loop-work.work-index) ∙ (take-suc c.args.works.now c.loop-work.work-index w below ∙ ap (λ x. take c.loop-work.work-index c.args.works.now ++ x ∷ []) (sym c.work-item.is)) in
    record {
      of = c.drive-told.ensures.of ∙ c.loop-work.invariant.of;
      few = omega (arith, n.one, c.loop-work.invariant.few);
      ends = (
        e.0 ++ told ∷ [],
        e.1 ++ gain_of w d.0 ∷ [],
        subst (λ (ws : List Work). Adoptions g.B.LifeBook.reached g.B.LifeBook.notes
            (record { pass = c.args.pass.now; spawner = g.S.Spawner.calls c.args.spawner.now; routes = g.P.RouteLink.calls c.args.routes.now }) ws (e.0 ++ told ∷ []) (e.1 ++ gain_of w d.0 ∷ [])
            (record { pass = c.drive-told.new.pass; spawner = g.S.Spawner.calls c.drive-told.new.spawner; routes = g.P.RouteLink.calls c.drive-told.new.routes }))
            (sym at)
            (adoptions_more g.B.LifeBook.reached g.B.LifeBook.notes _ _ _ (take c.loop-work.work-index c.args.works.now) e.0 e.1 w told (gain_of w d.0) e.2 (record { chain = d.0; is = d.1; gain = refl })),
        omega (arith, n.ready, e.3, readies_more e.0 told),
        omega (arith, n.stopped, e.4, stops_more e.0 told),
        omega (arith, n.parked, e.5, parks_more e.0 told),
      );
      spawner_counted = omega (arith, c.loop-work.invariant.spawner_counted, c.drive-told.ensures.spawner_counted);
      routes_counted = omega (arith, c.loop-work.invariant.routes_counted, c.drive-told.ensures.routes_counted);
    }

pub returns-clause-adopted : goal.returns-clause-adopted
returns-clause-adopted g c =
    let e = c.loop-work.invariant.ends in
    let n : c.loop-work.work-index ≡ length c.args.works.now = search rules in
    let whole : Adoptions g.B.LifeBook.reached g.B.LifeBook.notes
    (record { pass = c.args.pass.now; spawner = g.S.Spawner.calls c.args.spawner.now; routes = g.P.RouteLink.calls c.args.routes.now }) c.args.works.now e.0 e.1
    (record { pass = c.loop-work.pass; spawner = g.S.Spawner.calls c.loop-work.spawner; routes = g.P.RouteLink.calls c.loop-work.routes }) =
    subst (λ (ws : List Work). Adoptions g.B.LifeBook.reached g.B.LifeBook.notes
    (record { pass = c.args.pass.now; spawner = g.S.Spawner.calls c.args.spawner.now; routes = g.P.RouteLink.calls c.args.routes.now }) ws e.0 e.1
    (record { pass = c.loop-work.pass; spawner = g.S.Spawner.calls c.loop-work.spawner; routes = g.P.RouteLink.calls c.loop-work.routes }))
    (ap (λ k. take k c.args.works.now) n ∙ take-length c.args.works.now) e.2 in
    (e.0, e.1, whole, adoptions_gain g.B.LifeBook.reached g.B.LifeBook.notes _ _ c.args.works.now e.0 e.1 whole, e.3, e.4, e.5)
