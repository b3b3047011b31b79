use Rattle.std.proofs.Common.{◌≡◌, IfOk, subst, ap, ◌∙◌}
use Rattle.percent_encoding.specs.Percent.{percent_decode}
use Rattle.percent_encoding.specs.Iter.{decoded_bytes}
use Rattle.request_parts.proofs.Texts.{segment_is_text, segment_is_none}
use Rattle.request_parts.proofs.path.read_in_path.Goals as goal

pub returns-in-Ok : goal.returns-in-Ok
returns-in-Ok g c =
    subst (λ v. IfOk c.from_text.result (λ value. value ≡ v))
    (segment_is_text g.N.FromText.reads c.args.n c.args.path.now c.as_str.result.now
    (c.as_str.ensures.value ∙ (c.in-Ok.ensures.value ∙ (c.percent_decode.ensures.bytes ∙ ap percent_decode (c.as_bytes.ensures.value ∙ c.segment.ensures))))
    c.as_str.utf8)
    c.from_text.ensures

pub returns-in-Err-Utf8 : goal.returns-in-Err-Utf8
returns-in-Err-Utf8 g c =
    segment_is_none g.N.FromText.reads c.args.n c.args.path.now (decoded_bytes c.percent_decode.result)
    (c.percent_decode.ensures.bytes ∙ ap percent_decode (c.as_bytes.ensures.value ∙ c.segment.ensures))
    (λ is. cc (c.in-Err-Utf8.ensures.utf8 is))
