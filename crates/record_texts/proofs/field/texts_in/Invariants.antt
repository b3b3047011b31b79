use Rattle.std.proofs.Common.{◌≡◌, List, take, map}
use Rattle.std.specs.List.{AllByRecursion}
use Rattle.serde_json.specs.View.{items_view}
use Rattle.record_texts.specs.Fields.{strings}
use Rattle.record_texts.proofs.field.texts_in.Given as goal

abbrev pub invariant-loop-item : goal.invariant-loop-item
invariant-loop-item g l =
    (xs : List g.row.T.Denot) → AllByRecursion g.T.Textual.valid xs → items_view l.items ≡ strings (map g.T.Textual.text_of xs) → l.texts.items ≡ take l.item-index xs
