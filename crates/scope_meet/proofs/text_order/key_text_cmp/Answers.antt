use Rattle.std.proofs.Common.{◌∙◌, ap}
use Rattle.std.specs.List.{slice_get}
use Rattle.scope_meet.specs.FilterTexts.{end_cmp}
use Rattle.scope_meet.proofs.TextCompare.{keys_compared}
use Rattle.scope_meet.proofs.text_order.key_text_cmp.Goals as goal

pub returns : goal.returns
returns c =
    keys_compared c.args.k.now.user c.args.l.now.user c.args.k.now.server c.args.l.now.server c.as_bytes-first.result.now c.as_bytes-second.result.now c.lesser_len-shared.result c.cmp-begun.result c.end_cmp.result c.then.result
    c.as_str.ensures.name c.as_str-2.ensures.name (c.as_bytes-first.ensures.value ∙ c.as_str.ensures.value) (c.as_bytes-second.ensures.value ∙ c.as_str-2.ensures.value)
    c.lesser_len-shared.ensures.in_first c.lesser_len-shared.ensures.in_second c.lesser_len-shared.ensures.whole
    c.cmp-begun.ensures
    (c.end_cmp.ensures ∙ ap (λ p. end_cmp p c.byte_at-2.result c.args.k.now.server c.args.l.now.server) c.byte_at.ensures
    ∙ ap (λ q. end_cmp (slice_get c.as_bytes-first.result.now c.lesser_len-shared.result) q c.args.k.now.server c.args.l.now.server) c.byte_at-2.ensures)
    c.then.ensures
