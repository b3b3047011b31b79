use Rattle.std.proofs.Common.{◌∙◌}
use Rattle.std.proofs.lemmas.Result.{IfOk-weaker}
use Rattle.proxy_api.proofs.TextLemmas.{text_of_parts}
use Rattle.proxy_api.proofs.texts.refused_text.Goals as goal

pub returns : goal.returns
returns c =
    IfOk-weaker c.text_with.result _ _
    (λ text h. h ∙ text_of_parts _ _ _ _ c.args.refusal c.requires c.refusal_line.ensures (c.as_slice.ensures ∙ c.in_ok-body.ensures) c.in_ok-message.ensures c.refusal_status.ensures)
    c.text_with.ensures
