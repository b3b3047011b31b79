use Rattle.sqlite.specs.Held.{state}
use Rattle.row_table.proofs.Open.{survives_open}
use Rattle.row_table.proofs.Placed.{puts_inside}
use Rattle.row_table.proofs.statements.put_row.Goals as goal

pub returns-clause-clean : goal.returns-clause-clean
returns-clause-clean g c = c.execute.ensures.survives.clean

pub returns-clause-put : goal.returns-clause-put
returns-clause-put g c clean inside store =
    puts_inside (state g.S.Store c.args.tx.now.conn.now) (state g.S.Store c.execute.new.self.conn.now) c.args.kind c.args.key.now c.args.text.now c.execute.result store
    (rw (c.params-to_sql.ensures, c.params-to_sql-2.ensures, c.params-to_sql-3.ensures, c.from.ensures) at (c.execute.ensures.runs clean inside))

pub returns-clause-runs : goal.returns-clause-runs
returns-clause-runs g c clean inside =
    rw (c.params-to_sql.ensures, c.params-to_sql-2.ensures, c.params-to_sql-3.ensures, c.from.ensures) at (c.execute.ensures.runs clean inside)

pub returns-clause-stays : goal.returns-clause-stays
returns-clause-stays g c = survives_open _ _ _ c.execute.ensures.survives
