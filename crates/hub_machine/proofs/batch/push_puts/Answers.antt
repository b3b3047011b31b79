use Rattle.std.proofs.Common.{◌≡◌, true, false, sym, ◌∙◌, ap}
use Rattle.hub_rows.specs.RowKeys.{is_put}
use Rattle.record_texts.specs.Items.{item_of, IsValid}
use Rattle.hub_machine.proofs.Passed.{made_taken, made_left, good_taken, good_left, made_all, good_all}
use Rattle.hub_machine.proofs.batch.push_puts.Goals as goal
use Rattle.hub_machine.proofs.batch.push_puts.Goals.{then-is_put+in_ok-push_item, else-is_put}

pub loop-row-preserved : goal.loop-row-preserved
loop-row-preserved c =
    let rows = c.args.rows.now in
    let row = c.row-item.result in
    let i = c.loop-row.row-index in
    let within = c.loop-row-test.true in
    let before = c.loop-row.items.items in
    let after = c.if-is_put.items.items in
    elim c.if-is_put.branch [
      | then-is_put+in_ok-push_item w ↦
          let passes : is_put row ≡ true = sym c.is_put.ensures ∙ w.if-is_put.true in record {
            items = made_taken is_put item_of IsValid rows i row within c.row-item.is passes before after _ c.loop-row.invariant.items (ap (λ v. v.items) w.items-is ∙ w.in_ok-push_item.ensures.items);
            valid = good_taken is_put item_of IsValid rows i row within c.row-item.is passes c.loop-row.invariant.valid w.in_ok-push_item.ensures.valid;
          }
      | else-is_put w ↦
          let stays : is_put row ≡ false = sym c.is_put.ensures ∙ w.if-is_put.false in record {
            items = made_left is_put item_of IsValid rows i row within c.row-item.is stays before after _ c.loop-row.invariant.items (ap (λ v. v.items) w.items-is);
            valid = good_left is_put item_of IsValid rows i row within c.row-item.is stays c.loop-row.invariant.valid;
          }
    ]

pub returns-clause-items : goal.returns-clause-items
returns-clause-items c = made_all is_put item_of IsValid c.args.rows.now c.loop-row.row-index c.loop-row-test.false c.loop-row.items.items _ c.loop-row.invariant.items

pub returns-clause-valid : goal.returns-clause-valid
returns-clause-valid c = good_all is_put item_of IsValid c.args.rows.now c.loop-row.row-index c.loop-row-test.false c.loop-row.invariant.valid
