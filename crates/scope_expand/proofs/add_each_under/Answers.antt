use Rattle.std.proofs.Common.{◌≡◌, ◌+◌, ◌++◌, ◌∷◌, [], List, sym, ap, ◌∙◌, subst, take, arith}
use Rattle.std.specs.List.{flat_map}
use Rattle.std.proofs.lemmas.List.{take_all, take_more}
use Rattle.scope_names.specs.declared.action.Action.{Action}
use Rattle.scope_expand.specs.Meaning.{under}
use Rattle.scope_expand.specs.Covering.{CoversMore}
use Rattle.scope_expand.proofs.Meanings.{covers_nothing, covers_next}
use Rattle.scope_expand.proofs.add_each_under.Goals as goal

pub loop-action-init : goal.loop-action-init
loop-action-init c = covers_nothing c.args.table.now c.args.grant.now

pub loop-action-preserved : goal.loop-action-preserved
loop-action-preserved c =
    let i = c.loop-action.action-index in
    let all : List Action = c.args.actions.now in
    let action : Action = c.action-item.result in
    let more : take (i + 1) all ≡ take i all ++ action ∷ [] = take_more all i action (omega arith) ∙ ap (λ (y : Action). take i all ++ y ∷ []) (sym c.action-item.is) in
    covers_next c.args.table.now (λ a. under a c.args.filter.now) (take i all) (take (i + 1) all) action c.args.grant.now c.loop-action.grant c.add_under.new.grant more
    c.loop-action.invariant c.in_ok-add_under.ensures

pub returns : goal.returns
returns c =
    subst (λ (actions : List Action). CoversMore c.args.table.now c.args.grant.now (flat_map (λ a. under a c.args.filter.now) actions) c.loop-action.grant)
    (take_all c.loop-action.action-index c.args.actions.now c.loop-action-test.false) c.loop-action.invariant
