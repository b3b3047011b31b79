use Rattle.std.proofs.Common.{◌∙◌, ◌≡◌, subst}
use Rattle.std.proofs.lemmas.Result.{IfOk-weaker}
use Rattle.std.specs.Prelude.{Ok}
use Rattle.hub_tables.specs.State.{State}
use Rattle.admin_rules.specs.Roles.{put_role}
use Rattle.hub_view.specs.Records.{role_body}
use Rattle.hub_machine.specs.Replies.{good}
use Rattle.hub_calls.specs.Calling.{by_rules}
use Rattle.hub_calls.proofs.role_calls.put_role.Goals as goal

pub returns-in-Ok : goal.returns-in-Ok
returns-in-Ok c =
    let says : put_role c.args.hub.now.tables c.args.role.now ≡ Ok c.in-Ok.rows.items =
    subst (λ (t : State). put_role t c.args.role.now ≡ Ok c.in-Ok.rows.items) c.tables-2.ensures c.in-Ok.ensures.answer in
    let status = rw c.tables.ensures at c.put_status-status.ensures in
    let role = c.args.role.now in
    let hub = c.args.hub.now in
    IfOk-weaker c.answered.result _ _ (λ a h. h _ says hub (λ after. role_body role) c.role_body.ensures ∙ (λ i. by_rules hub (put_role hub.tables role) (λ after. good (status i) (role_body role)))) c.answered.ensures
