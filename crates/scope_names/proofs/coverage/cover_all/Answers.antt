use Rattle.std.proofs.Common.{◌≡◌, ◌++◌, ◌∷◌, ◌+◌, ◌≤◌, [], List, true, length, sym, ap, ◌∙◌, subst, take, arith}
use Rattle.std.proofs.lemmas.List.{take_all, take_more}
use Rattle.std.proofs.lemmas.List.Folds.{list_any_at}
use Rattle.scope_names.specs.declared.action.Action.{Action}
use Rattle.scope_names.specs.ActionOrder.{same_action}
use Rattle.scope_names.specs.Coverage.{is_among, known, IsCoverage}
use Rattle.scope_names.proofs.Among.{same_self}
use Rattle.scope_names.proofs.Cover.{Covered, coverage, covered_more, all_covered, covered_none}
use Rattle.scope_names.proofs.coverage.cover_all.Goals as goal

pub loop-action-init : goal.loop-action-init
loop-action-init c = covered_none c.args.rows.now c.new-covered.result c.new-covered.ensures.empty

pub loop-action-preserved : goal.loop-action-preserved
loop-action-preserved c =
    let xs : List Action = c.deref-action-items.result.now in
    let a : Action = c.action-item.result in
    let below : c.loop-action.action-index + 1 ≤ length c.deref-action-items.result.now = omega arith in
    let all : xs ≡ known c.args.rows.now = c.deref-action-items.ensures.value ∙ c.in_ok-actions.ensures in
    let here : is_among a xs ≡ true = list_any_at (same_action a) xs c.loop-action.action-index a (omega arith) (subst (λ (y : Action). same_action a y ≡ true) c.action-item.is (same_self a)) in
    let done : IsCoverage c.args.rows.now a c.in_ok-reach_one.field-0 = coverage c.args.rows.now a c.in_ok-reach_one.field-0 (subst (λ (ys : List Action). is_among a ys ≡ true) all here) c.in_ok-reach_one.ensures in
    subst (λ (ys : List Action). Covered c.args.rows.now c.insert.new.self ys) (sym (take_more xs c.loop-action.action-index a (omega arith) ∙ ap (λ (y : Action). take c.loop-action.action-index xs ++ y ∷ []) (sym c.action-item.is)))
    (covered_more c.args.rows.now a (take c.loop-action.action-index xs) c.in_ok-reach_one.field-0 c.loop-action.covered c.insert.new.self c.in_ok-insert.ensures.updates.0 done c.loop-action.invariant)

pub returns : goal.returns
returns c =
    let whole : take c.loop-action.action-index c.deref-action-items.result.now ≡ known c.args.rows.now = take_all c.loop-action.action-index c.deref-action-items.result.now c.loop-action-test.false ∙ c.deref-action-items.ensures.value ∙ c.in_ok-actions.ensures in
    all_covered c.args.rows.now c.loop-action.covered (subst (λ (ys : List Action). Covered c.args.rows.now c.loop-action.covered ys) whole c.loop-action.invariant)
