use Rattle.std.proofs.Common.{◌++◌, ◌∷◌, [], take, sym, ap, add-one, ◌∙◌}
use Rattle.std.proofs.Math.Seq.{take-suc}
use Rattle.hub_run.proofs.RoutedLemmas.{one_shown, all_shown}
use Rattle.hub_run.proofs.routed.routes_body.Goals as goal

pub loop-route-preserved : goal.loop-route-preserved
loop-route-preserved c =
    let i = c.loop-route.route-index in
    let xs = c.args.routes.now in
    let route = c.route-item.result in
    one_shown xs i route c.loop-route.fields.items c.add_member.new.fields.items _ c.in_ok-body.body
    (ap (λ n. take n xs) (add-one i) ∙ (take-suc xs i route c.loop-route-test.true ∙ ap (λ x. take i xs ++ x ∷ []) (sym c.route-item.is)))
    c.loop-route.invariant c.as_str.ensures c.in_ok-body.ensures c.in_ok-add_member.ensures.ok

pub returns : goal.returns
returns c = all_shown c.args.routes.now c.loop-route.route-index c.loop-route.fields c.loop-route-test.false c.loop-route.invariant
