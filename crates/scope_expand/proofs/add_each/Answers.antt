use Rattle.std.proofs.Common.{◌≡◌, ◌&&◌, ◌||◌, ◌++◌, ◌∷◌, ◌+◌, [], List, sym, ap, ◌∙◌, take, arith}
use Rattle.std.proofs.lemmas.List.{take_more}
use Rattle.scope_names.specs.declared.action.Action.{Action}
use Rattle.scope_names.specs.Coverage.{is_among}
use Rattle.scope_expand.specs.Passes.{passes}
use Rattle.scope_expand.proofs.Held.{each_more}
use Rattle.scope_expand.proofs.add_each.Goals as goal

pub loop-action-preserved : goal.loop-action-preserved
loop-action-preserved c = λ p a.
    let i = c.loop-action.action-index in
    let acts : List Action = c.args.actions.now in
    let more : take (i + 1) acts ≡ take i acts ++ c.action-item.result ∷ [] = take_more acts i c.action-item.result (omega arith) ∙ ap (λ (y : Action). take i acts ++ y ∷ []) (sym c.action-item.is) in
    ap (λ g. passes p g a) c.in_ok-add.ensures.ok
    ∙ each_more p c.loop-action.grant (take i acts) c.action-item.result a c.args.filter.now (passes p c.args.grant.now a) (c.loop-action.invariant p a)
    ∙ ap (λ (ys : List Action). passes p c.args.grant.now a || (is_among a ys && p c.args.filter.now)) (sym more)
