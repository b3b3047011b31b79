use Rattle.std.proofs.Common.{◌≡◌, true, false, not, sym, ◌∙◌, ap}
use Rattle.hub_rows.specs.declared.changes.RowChange.{RowChange}
use Rattle.hub_rows.specs.RowKeys.{is_put}
use Rattle.record_texts.specs.Items.{item_of, IsValid}
use Rattle.hub_machine.proofs.Passed.{made_taken, made_left, good_taken, good_left, made_all, good_all}
use Rattle.hub_machine.proofs.batch.push_removals.Goals as goal
use Rattle.hub_machine.proofs.batch.push_removals.Goals.{then-not-is_put+in_ok-push_item, else-not-is_put}

pub loop-row-preserved : goal.loop-row-preserved
loop-row-preserved c =
    let rows = c.args.rows.now in
    let row = c.row-item.result in
    let i = c.loop-row.row-index in
    let within = c.loop-row-test.true in
    let before = c.loop-row.items.items in
    let after = c.if-not-is_put.items.items in
    elim c.if-not-is_put.branch [
      | then-not-is_put+in_ok-push_item w ↦
          let passes : (λ (r : RowChange). not (is_put r)) row ≡ true = ap not (sym c.is_put.ensures ∙ w.if-not-is_put.true) in record {
            items = made_taken (λ (r : RowChange). not (is_put r)) item_of IsValid rows i row within c.row-item.is passes before after _ c.loop-row.invariant.items (ap (λ v. v.items) w.items-is ∙ w.in_ok-push_item.ensures.items);
            valid = good_taken (λ (r : RowChange). not (is_put r)) item_of IsValid rows i row within c.row-item.is passes c.loop-row.invariant.valid w.in_ok-push_item.ensures.valid;
          }
      | else-not-is_put w ↦
          let stays : (λ (r : RowChange). not (is_put r)) row ≡ false = ap not (sym c.is_put.ensures ∙ w.if-not-is_put.false) in record {
            items = made_left (λ (r : RowChange). not (is_put r)) item_of IsValid rows i row within c.row-item.is stays before after _ c.loop-row.invariant.items (ap (λ v. v.items) w.items-is);
            valid = good_left (λ (r : RowChange). not (is_put r)) item_of IsValid rows i row within c.row-item.is stays c.loop-row.invariant.valid;
          }
    ]

pub returns-clause-items : goal.returns-clause-items
returns-clause-items c = made_all (λ (r : RowChange). not (is_put r)) item_of IsValid c.args.rows.now c.loop-row.row-index c.loop-row-test.false c.loop-row.items.items _ c.loop-row.invariant.items

pub returns-clause-valid : goal.returns-clause-valid
returns-clause-valid c = good_all (λ (r : RowChange). not (is_put r)) item_of IsValid c.args.rows.now c.loop-row.row-index c.loop-row-test.false c.loop-row.invariant.valid
