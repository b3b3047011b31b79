use Rattle.std.proofs.Common.{ap, ◌∙◌, map, subst}
use Rattle.std.proofs.lemmas.List.{take_more, take_all}
use Rattle.serde_json.specs.Data.{string, array}
use Rattle.serde_json.proofs.Views.{view-Array}
use Rattle.record_texts.specs.Fields.{strings}
use Rattle.record_texts.proofs.Lists.{texts_more, valid_more}
use Rattle.record_texts.proofs.field.texts_value.Goals as goal

pub loop-text-preserved : goal.loop-text-preserved
loop-text-preserved g c =
    let more = take_more c.args.texts.now c.loop-text.text-index c.text-item.result c.loop-text-test.true in
    let value = c.in_ok-text_value.ensures.value ∙ ap (λ x. string (g.T.Textual.text_of x)) c.text-item.is in
    let valid = subst g.T.Textual.valid c.text-item.is c.in_ok-text_value.ensures.valid in (
      rw (c.in_ok-push.ensures.items, more) (texts_more g.T.Textual.text_of g.T.Textual.valid _ _ _ _ c.loop-text.invariant.0 value),
      rw more (valid_more g.T.Textual.text_of g.T.Textual.valid _ _ c.loop-text.invariant.1 valid),
    )

pub returns-clause-value : goal.returns-clause-value
returns-clause-value g c =
    view-Array c.loop-text.items ∙ ap array (c.loop-text.invariant.0 ∙ ap (λ xs. strings (map g.T.Textual.text_of xs)) (take_all _ _ c.loop-text-test.false))
