use Rattle.std.proofs.Common.{subst}
use Rattle.std.proofs.lemmas.Result.{IfOk-weaker}
use Rattle.hub_tables.specs.State.{State}
use Rattle.admin_rules.specs.Rules.{Says}
use Rattle.admin_rules.specs.Servers.{note_activity}
use Rattle.hub_calls.proofs.server_calls.post_activity.Goals as goal

pub returns : goal.returns
returns c =
    let says = subst (λ (t : State). Says (note_activity t c.args.user.now c.args.now c.args.last_activity c.args.told.now) c.note_activity-rows.result) c.tables.ensures c.note_activity-rows.ensures.answer in
    IfOk-weaker c.carried.result _ _ (λ a h. h _ says c.args.hub.now) c.carried.ensures
