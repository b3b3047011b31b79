use Rattle.std.proofs.Common.{◌∙◌, ap}
use Rattle.std.proofs.lemmas.Result.{IfOk-at_ok}
use Rattle.hub_machine.specs.Answers.{good_view}
use Rattle.hub_machine.specs.Replies.{good}
use Rattle.hub_calls.proofs.Ruling.{ok_rows}
use Rattle.hub_calls.proofs.ruled.answered.Goals as goal

pub returns-in-Ok : goal.returns-in-Ok
returns-in-Ok c answer says s shown h =
    c.rows_then.ensures ∙ ok_rows s answer c.args.rows.items (λ after. good c.args.status (shown after)) (good_view c.plain.result) says (c.plain.ensures ∙ ap (good c.args.status) (IfOk-at_ok _ c.in-Ok.is h))
