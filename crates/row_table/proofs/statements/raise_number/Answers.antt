use Rattle.row_table.proofs.Open.{survives_open}
use Rattle.row_table.proofs.Inside.{goes_on, all_ran}
use Rattle.row_table.proofs.Made.{raised_inside}
use Rattle.row_table.proofs.statements.raise_number.Goals as goal

pub returns-clause-clean : goal.returns-clause-clean
returns-clause-clean g c = c.execute_batch.ensures.survives.clean

pub returns-clause-kept : goal.returns-clause-kept
returns-clause-kept g c clean inside = (c.execute_batch.ensures.kept clean, goes_on _ _ c.execute_batch.result (c.execute_batch.ensures.inside clean) inside)

pub returns-clause-ran : goal.returns-clause-ran
returns-clause-ran g c clean = all_ran g.S.Store _ _ _ c.execute_batch.result (c.execute_batch.ensures.ran clean)

pub returns-clause-raised : goal.returns-clause-raised
returns-clause-raised g c clean store = raised_inside g.S.Store c.args.tx.now.conn.now c.execute_batch.new.self.conn.now c.execute_batch.result store (c.execute_batch.ensures.ran clean)

pub returns-clause-stays : goal.returns-clause-stays
returns-clause-stays g c = survives_open _ _ _ c.execute_batch.ensures.survives
