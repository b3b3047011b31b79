use Rattle.std.proofs.Common.{◌≡◌, true, false, ◌∙◌, sym, ap}
use Rattle.hub_rows.specs.RowKeys.{is_put}
use Rattle.hub_tables.specs.Changes.{puts_of, rows_done}
use Rattle.hub_tables.specs.State.{State}
use Rattle.table_changes.proofs.WithWayBack.{leads, leads_still, fits_here, fits_after, fits_past, put_here, none_here}
use Rattle.table_changes.proofs.staged.stage.Goals as goal
use Rattle.table_changes.proofs.staged.stage.Goals.{then-is_put+in-Ok, else-is_put}

pub put_logged-requires-clause-fits : goal.put_logged-requires-clause-fits
put_logged-requires-clause-fits c =
    fits_here c.args.rows.now c.loop-row.row-index c.row-item.result c.loop-row-test.true c.row-item.is c.loop-row.tables (sym c.is_put.ensures ∙ c.if-is_put.true) c.loop-row.invariant.fit

pub loop-row-preserved : goal.loop-row-preserved
loop-row-preserved c =
    let rows = c.args.rows.now in
    let i = c.loop-row.row-index in
    let row = c.row-item.result in
    let within = c.loop-row-test.true in
    let before = c.loop-row.tables in
    let after = c.if-is_put.tables in
    let whole : State = rows_done (puts_of rows) c.args.tables.now in
    let log = c.loop-row.log.items in
    let now = c.if-is_put.log.items in
    elim c.if-is_put.branch [
      | then-is_put+in-Ok w ↦
          let put : is_put row ≡ true = sym c.is_put.ensures ∙ w.if-is_put.true in record {
            done = put_here rows i row within c.row-item.is before after whole put (w.tables-is ∙ w.in-Ok.ensures.ok.0) c.loop-row.invariant.done;
            leads = leads_still w.put_logged.new.log.items now w.put_logged.new.tables after c.args.tables.now (ap (λ v. v.items) w.log-is) w.tables-is (leads log w.put_logged.new.log.items before w.put_logged.new.tables c.args.tables.now c.loop-row.invariant.leads w.in-Ok.ensures.ok.1);
            fit = fits_after rows i row within c.row-item.is before after put (w.tables-is ∙ w.in-Ok.ensures.ok.0) c.loop-row.invariant.fit;
          }
      | else-is_put w ↦
          let none : is_put row ≡ false = sym c.is_put.ensures ∙ w.if-is_put.false in record {
            done = none_here rows i row within c.row-item.is before after whole none w.tables-is c.loop-row.invariant.done;
            leads = leads_still log now before after c.args.tables.now (ap (λ v. v.items) w.log-is) w.tables-is c.loop-row.invariant.leads;
            fit = fits_past rows i row within c.row-item.is before after none w.tables-is c.loop-row.invariant.fit;
          }
    ]
