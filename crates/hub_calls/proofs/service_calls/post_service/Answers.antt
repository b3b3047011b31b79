use Rattle.std.proofs.Common.{◌∙◌}
use Rattle.std.proofs.lemmas.Result.{IfOk-weaker}
use Rattle.hub_calls.specs.Facts.{service_body}
use Rattle.hub_calls.specs.Rights.{may_of}
use Rattle.hub_calls.proofs.Ruling.{add_service_keeps}
use Rattle.hub_calls.proofs.service_calls.post_service.Goals as goal

pub returns-in-Ok : goal.returns-in-Ok
returns-in-Ok c =
    let says = rw c.tables.ensures at c.in-Ok.ensures.answer in
    let same = add_service_keeps (may_of c.args.hub.now c.args.rights.now) c.args.hub.now c.args.service.now c.in-Ok.rows.items says in
    let shown = IfOk-weaker c.service_body.result _ _ (λ b h. h ∙ same) c.service_body.ensures in
    IfOk-weaker c.answered.result _ _ (λ a h. h _ says c.args.hub.now (λ after. service_body (may_of c.args.hub.now c.args.rights.now) after c.args.service.now) shown) c.answered.ensures
