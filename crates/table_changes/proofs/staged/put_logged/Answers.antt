use Rattle.std.proofs.Common.{rules, ◌≡◌, ◌∙◌, sym, subst}
use Rattle.hub_tables.specs.Changes.{row_done}
use Rattle.hub_tables.specs.State.{State}
use Rattle.table_changes.specs.Steps.{OneMore}
use Rattle.table_changes.proofs.WithWayBack.{taken_back}
use Rattle.table_changes.proofs.staged.put_logged.Goals as goal

pub returns-in-Ok-clause-ok : goal.returns-in-Ok-clause-ok
returns-in-Ok-clause-ok c =
    let done : c.change_by_copy.new.tables ≡ row_done c.args.row.now c.args.tables.now = c.in-Ok.ensures.ok in (
      done,
      subst (λ (t : State). OneMore c.args.tables.now t c.args.log.now.items c.log_back.new.log.items) (sym done) c.in_ok-log_back.ensures.ok,
    )

pub returns-in-Err-clause-err : goal.returns-in-Err-clause-err
returns-in-Err-clause-err c = (
  c.in-Err.ensures.err,
  c.truncate.ensures.items ∙ taken_back c.args.tables.now (row_done c.args.row.now c.args.tables.now) c.args.log.now.items c.log_back.new.log.items c.len-steps.result (search rules) c.in_ok-log_back.ensures.ok,
)
