use Rattle.std.proofs.Common.{◌∙◌, Ok, arith, sym, take}
use Rattle.std.proofs.lemmas.List.{take_more}
use Rattle.sqlite.specs.Held.{state}
use Rattle.sqlite.proofs.InsideLemmas.{keeps_then}
use Rattle.row_table.proofs.Inside.{runs_keep}
use Rattle.row_table.proofs.Open.{open_then}
use Rattle.keeper_sqlite.proofs.Inside.{done_more}
use Rattle.keeper_sqlite.proofs.store.do_items.Goals as goal

pub loop-item-preserved : goal.loop-item-preserved
loop-item-preserved g c =
    let start = c.args.tx.now.conn.now in
    let mid = c.loop-item.tx.conn.now in
    let last = c.do_item.new.tx.conn.now in
    let before = c.loop-item.invariant in (
      c.do_item.ensures.same_reference ∙ before.0,
      omega (arith, before.1, c.do_item.ensures.clean),
      open_then (state g.S.Store start) (state g.S.Store mid) (state g.S.Store last) before.2 c.do_item.ensures.clean c.do_item.ensures.stays,
      λ clean inside.
          let early = before.3 (omega (arith, c.do_item.ensures.clean, clean)) inside in
          let ran = c.in_ok-do_item.ensures.done clean early.1 in
          let kept = runs_keep _ _ (state g.S.Store mid) (state g.S.Store last) (Ok c.in_ok-do_item.field-0) ran in (
            keeps_then (state g.S.Store start) (state g.S.Store mid) (state g.S.Store last) early.0 kept.0,
            kept.1,
            rw (take_more c.args.items.now c.loop-item.item-index c.item-item.result c.loop-item-test.true, sym c.item-item.is)
                (done_more g.S.Store (take c.loop-item.item-index c.args.items.now) _ start mid last c.in_ok-do_item.field-0 early.2 ran.0),
          ),
    )
