use Rattle.std.proofs.Common.{[]}
use Rattle.sqlite.specs.Held.{state}
use Rattle.row_table.specs.Texts.{number_text}
use Rattle.row_table.proofs.Asked.{query_leaves}
use Rattle.row_table.proofs.Open.{survives_open}
use Rattle.keeper_sqlite.proofs.store.find_form.Goals as goal

pub returns-clause-left : goal.returns-clause-left
returns-clause-left g c clean = query_leaves number_text (state g.S.Store c.args.conn.now) (state g.S.Store c.query_row.new.self) [] c.query_row.result (c.query_row.ensures.row clean)

pub returns-in_err-row-clause-left : goal.returns-in_err-row-clause-left
returns-in_err-row-clause-left g c clean = query_leaves number_text (state g.S.Store c.args.conn.now) (state g.S.Store c.query_row.new.self) [] c.query_row.result (c.query_row.ensures.row clean)

pub returns-clause-stays : goal.returns-clause-stays
returns-clause-stays g c = survives_open _ _ _ c.query_row.ensures.survives

pub returns-in_err-row-clause-stays : goal.returns-in_err-row-clause-stays
returns-in_err-row-clause-stays g c = survives_open _ _ _ c.query_row.ensures.survives
