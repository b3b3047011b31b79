use Rattle.sqlite.specs.Held.{state}
use Rattle.row_table.proofs.Open.{survives_open}
use Rattle.row_table.proofs.Inside.{query_keeps, row_found}
use Rattle.row_table.proofs.statements.find_number.Goals as goal

pub returns-clause-clean : goal.returns-clause-clean
returns-clause-clean g c = c.query_row.ensures.survives.clean

pub returns-clause-kept : goal.returns-clause-kept
returns-clause-kept g c clean inside =
    query_keeps (state g.S.Store c.args.tx.now.conn.now) (state g.S.Store c.query_row.new.self.conn.now) inside _ _ c.query_row.result (c.query_row.ensures.row clean)

pub returns-clause-found : goal.returns-clause-found
returns-clause-found g c clean = row_found _ _ _ _ c.query_row.result (c.query_row.ensures.row clean)

pub returns-clause-stays : goal.returns-clause-stays
returns-clause-stays g c = survives_open _ _ _ c.query_row.ensures.survives
