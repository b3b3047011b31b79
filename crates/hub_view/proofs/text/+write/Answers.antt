use Rattle.std.proofs.Common.{◌≡◌, ◌++◌, List, ℕ, [], ◌∷◌, ap, ◌∙◌}
use Rattle.std.proofs.lemmas.Result.{on_ok_weaker}
use Rattle.json.specs.Token.{key, end_array, end_object}
use Rattle.hub_view.specs.Body.{items_tokens, pairs_tokens}
use Rattle.hub_view.proofs.Items.{item_written, pair_written, items_ended, pairs_ended, array_written, object_written, record_written}
use Rattle.hub_view.proofs.text.+write.Goals as goal

pub write_items-loop-item-preserved : goal.write_items-loop-item-preserved
write_items-loop-item-preserved t c = (
  c.write.ensures.before ∙ c.loop-item.invariant.0,
  item_written c.args.items.now c.loop-item.item-index c.item-item.result c.loop-item.out.tokens c.write.new.out.tokens _
      c.loop-item-test.true c.item-item.is c.in_ok-write.ensures.ok c.loop-item.invariant.1,
)

pub write_pairs-loop-key-preserved : goal.write_pairs-loop-key-preserved
write_pairs-loop-key-preserved t c = (
  c.write.ensures.before ∙ c.key.ensures.room.0 ∙ c.loop-key.invariant.0,
  pair_written c.args.pairs.now c.loop-key.key-index c.loop-key-item.result c.loop-key.out.tokens c.key.new.self.tokens c.write.new.out.tokens _
      c.loop-key-test.true c.loop-key-item.is
      (c.in_ok-key.ensures.ok ∙ ap (λ (name : List ℕ). c.loop-key.out.tokens ++ key name ∷ []) c.as_str.ensures) c.in_ok-write.ensures.ok
      c.loop-key.invariant.1,
)

pub write_record-loop-key-preserved : goal.write_record-loop-key-preserved
write_record-loop-key-preserved t c = (
  c.write.ensures.before ∙ c.key.ensures.room.0 ∙ c.loop-key.invariant.0,
  pair_written c.args.fields.now c.loop-key.key-index c.loop-key-item.result c.loop-key.out.tokens c.key.new.self.tokens c.write.new.out.tokens _
      c.loop-key-test.true c.loop-key-item.is
      (c.in_ok-key.ensures.ok ∙ ap (λ (name : List ℕ). c.loop-key.out.tokens ++ key name ∷ []) c.as_str.ensures) c.in_ok-write.ensures.ok
      c.loop-key.invariant.1,
)

pub write_items-returns : goal.write_items-returns
write_items-returns t c = record {
  ok = on_ok_weaker c.end_array.result
      (λ (e : c.end_array.new.self.tokens ≡ c.loop-item.out.tokens ++ end_array ∷ []).
      e ∙ items_ended c.args.items.now c.loop-item.item-index c.loop-item.out.tokens _ c.loop-item-test.false c.loop-item.invariant.1)
      c.end_array.ensures.ok;
  before = c.end_array.ensures.room.0 ∙ c.loop-item.invariant.0;
}

pub write_pairs-returns : goal.write_pairs-returns
write_pairs-returns t c = record {
  ok = on_ok_weaker c.end_object.result
      (λ (e : c.end_object.new.self.tokens ≡ c.loop-key.out.tokens ++ end_object ∷ []).
      e ∙ pairs_ended c.args.pairs.now c.loop-key.key-index c.loop-key.out.tokens _ c.loop-key-test.false c.loop-key.invariant.1)
      c.end_object.ensures.ok;
  before = c.end_object.ensures.room.0 ∙ c.loop-key.invariant.0;
}

pub write_record-returns : goal.write_record-returns
write_record-returns t c = record {
  ok = on_ok_weaker c.end_object.result
      (λ (e : c.end_object.new.self.tokens ≡ c.loop-key.out.tokens ++ end_object ∷ []).
      e ∙ pairs_ended c.args.fields.now c.loop-key.key-index c.loop-key.out.tokens _ c.loop-key-test.false c.loop-key.invariant.1)
      c.end_object.ensures.ok;
  before = c.end_object.ensures.room.0 ∙ c.loop-key.invariant.0;
}

pub write-returns-in_ok-begin_array-in-Items : goal.write-returns-in_ok-begin_array-in-Items
write-returns-in_ok-begin_array-in-Items t c = record {
  ok = on_ok_weaker c.write_items.result
      (λ (e : c.write_items.new.out.tokens ≡ c.begin_array.new.self.tokens ++ items_tokens c.deref.result.now).
      array_written c.args.body.now c.in-Items.items c.deref.result.now c.args.out.now.tokens c.begin_array.new.self.tokens c.write_items.new.out.tokens
      c.in-Items.is c.deref.ensures.value c.in_ok-begin_array-in-Items.ensures.ok e)
      c.write_items.ensures.ok;
  before = c.write_items.ensures.before ∙ c.begin_array.ensures.room.0;
}

pub write-returns-in_ok-begin_object-in-Pairs : goal.write-returns-in_ok-begin_object-in-Pairs
write-returns-in_ok-begin_object-in-Pairs t c = record {
  ok = on_ok_weaker c.write_pairs.result
      (λ (e : c.write_pairs.new.out.tokens ≡ c.begin_object.new.self.tokens ++ pairs_tokens c.deref-in-Pairs.result.now).
      object_written c.args.body.now c.in-Pairs.pairs c.deref-in-Pairs.result.now c.args.out.now.tokens c.begin_object.new.self.tokens c.write_pairs.new.out.tokens
      c.in-Pairs.is c.deref-in-Pairs.ensures.value c.in_ok-begin_object-in-Pairs.ensures.ok e)
      c.write_pairs.ensures.ok;
  before = c.write_pairs.ensures.before ∙ c.begin_object.ensures.room.0;
}

pub write-returns-in_ok-begin_object-in-Record : goal.write-returns-in_ok-begin_object-in-Record
write-returns-in_ok-begin_object-in-Record t c = record {
  ok = on_ok_weaker c.write_record.result
      (λ (e : c.write_record.new.out.tokens ≡ c.begin_object-in-Record.new.self.tokens ++ pairs_tokens c.deref-in-Record.result.now).
      record_written c.args.body.now c.in-Record.fields c.deref-in-Record.result.now c.args.out.now.tokens c.begin_object-in-Record.new.self.tokens c.write_record.new.out.tokens
      c.in-Record.is c.deref-in-Record.ensures.value c.in_ok-begin_object-in-Record.ensures.ok e)
      c.write_record.ensures.ok;
  before = c.write_record.ensures.before ∙ c.begin_object-in-Record.ensures.room.0;
}
