use Rattle.std.proofs.Common.{◌≡◌, ◌++◌, drop}
use Rattle.hub_view.specs.Body.{items_tokens, pairs_tokens}
use Rattle.hub_view.proofs.text.+write.Given as goal

abbrev pub invariant-write_items-loop-item : goal.invariant-write_items-loop-item
invariant-write_items-loop-item l =
    (l.out.before ≡ l.fn.out.before)
    × (l.out.tokens ++ items_tokens (drop l.item-index l.fn.items) ≡ l.fn.out.tokens ++ items_tokens l.fn.items)

abbrev pub invariant-write_pairs-loop-key : goal.invariant-write_pairs-loop-key
invariant-write_pairs-loop-key l =
    (l.out.before ≡ l.fn.out.before)
    × (l.out.tokens ++ pairs_tokens (drop l.key-index l.fn.pairs) ≡ l.fn.out.tokens ++ pairs_tokens l.fn.pairs)

abbrev pub invariant-write_record-loop-key : goal.invariant-write_record-loop-key
invariant-write_record-loop-key l =
    (l.out.before ≡ l.fn.out.before)
    × (l.out.tokens ++ pairs_tokens (drop l.key-index l.fn.fields) ≡ l.fn.out.tokens ++ pairs_tokens l.fn.fields)
