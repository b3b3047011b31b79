use Rattle.std.proofs.Common.{◌≡◌, ◌∙◌, ap, subst}
use Rattle.std.specs.Prelude.{Ok, map}
use Rattle.std.proofs.lemmas.Result.{IfOk-weaker}
use Rattle.hub_tables.specs.State.{State}
use Rattle.admin_rules.specs.Users.{add_users, unkept_users}
use Rattle.hub_view.specs.Json.{items}
use Rattle.hub_calls.specs.Facts.{user_at}
use Rattle.hub_calls.specs.Rights.{may_of}
use Rattle.hub_calls.proofs.AddingUsers.{shown_when_added}
use Rattle.hub_calls.proofs.user_calls.post_users.Goals as goal

pub returns-in-Ok : goal.returns-in-Ok
returns-in-Ok c =
    let says : add_users c.args.hub.now.tables c.args.names.now c.args.admin c.args.now ≡ Ok c.in-Ok.rows.items =
    subst (λ (t : State). add_users t c.args.names.now c.args.admin c.args.now ≡ Ok c.in-Ok.rows.items) c.tables.ensures c.in-Ok.ensures.answer in
    let bodies = rw c.as_slice.ensures.value at c.bodies_put-body.ensures in
    let shown = IfOk-weaker c.bodies_put-body.result _ _ (λ b h. h ∙ ap items (shown_when_added (may_of c.args.hub.now c.args.rights.now) c.args.hub.now c.args.admin c.args.now c.args.names.now c.in-Ok.rows.items says)) bodies in
    IfOk-weaker c.answered.result _ _
    (λ a h. h _ says c.args.hub.now (λ after. items (map (user_at (may_of c.args.hub.now c.args.rights.now) after) (unkept_users c.args.hub.now.tables c.args.names.now))) shown)
    c.answered.ensures
