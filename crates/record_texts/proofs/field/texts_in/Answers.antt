use Rattle.std.proofs.Common.{◌++◌, ◌∷◌, [], ap, sym, ◌∙◌, take, arith}
use Rattle.std.proofs.lemmas.List.{take_more, take_all}
use Rattle.serde_json.specs.View.{view}
use Rattle.record_texts.proofs.Lists.{nth, as_long}
use Rattle.key_texts.proofs.Results.{not_found}
use Rattle.record_texts.proofs.field.texts_in.Goals as goal

pub returns-in-Err : goal.returns-in-Err
returns-in-Err g c xs all same =
    let n = nth g.T.Textual.text_of g.T.Textual.valid c.args.items.now xs c.loop-item.item-index c.item-item.result same all c.loop-item-test.true in
    not_found c.in-Err.error n.0 xs (c.in-Err.ensures n.0 n.1 (ap view c.item-item.is ∙ n.2))

pub loop-item-preserved : goal.loop-item-preserved
loop-item-preserved g c xs all same =
    let at = c.loop-item.item-index in
    let n = nth g.T.Textual.text_of g.T.Textual.valid c.args.items.now xs at c.item-item.result same all c.loop-item-test.true in
    let text = c.in-Ok.ensures n.0 n.1 (ap view c.item-item.is ∙ n.2) in
    let here = take_more xs at n.0 (omega (arith, as_long g.T.Textual.text_of g.T.Textual.valid c.args.items.now xs same, c.loop-item-test.true)) in
    c.in_ok-add.ensures ∙ ap (λ front. front ++ c.in-Ok.text ∷ []) (c.loop-item.invariant xs all same)
    ∙ ap (λ x. take at xs ++ x ∷ []) (text ∙ sym (n.3 n.0)) ∙ sym here

pub returns : goal.returns
returns g c xs all same =
    c.from_vec.ensures ∙ c.loop-item.invariant xs all same
    ∙ take_all _ _ (omega (arith, as_long g.T.Textual.text_of g.T.Textual.valid c.args.items.now xs same, c.loop-item-test.false))
