use Rattle.std.proofs.Common.{subst}
use Rattle.std.proofs.lemmas.Result.{IfOk-weaker, IfOk-at_ok}
use Rattle.admin_rules.specs.Rules.{Says}
use Rattle.hub_calls.specs.Facts.{group_at}
use Rattle.hub_calls.specs.Rights.{may_of}
use Rattle.hub_calls.proofs.group_calls.answer_of_group.Goals as goal

pub group_after-body-requires : goal.group_after-body-requires
group_after-body-requires c = rw c.as_slice.ensures.value (IfOk-at_ok _ c.in-Ok.is c.requires)

pub returns-in-Ok : goal.returns-in-Ok
returns-in-Ok c =
    let shown = rw c.as_slice.ensures.value at c.group_after-body.ensures in
    IfOk-weaker c.answered.result _ _ (λ a h answer says. h answer (subst (λ r. Says answer r) c.in-Ok.is says) c.args.hub.now (λ after. group_at (may_of c.args.hub.now c.args.rights.now) after c.args.group.now) shown) c.answered.ensures

pub returns-in-Err : goal.returns-in-Err
returns-in-Err c = IfOk-weaker c.refused.result _ _ (λ a h answer says. h answer (subst (λ r. Says answer r) c.in-Err.is says) c.args.hub.now _) c.refused.ensures
