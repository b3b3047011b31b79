use Rattle.std.proofs.Common.{◌≡◌, take, map}
use Rattle.std.specs.List.{AllByRecursion}
use Rattle.serde_json.specs.View.{items_view}
use Rattle.record_texts.specs.Fields.{strings}
use Rattle.record_texts.proofs.field.texts_value.Given as goal

abbrev pub invariant-loop-text : goal.invariant-loop-text
invariant-loop-text g l =
    (items_view l.items.items ≡ strings (map g.T.Textual.text_of (take l.text-index l.texts)))
    × AllByRecursion g.T.Textual.valid (take l.text-index l.texts)
