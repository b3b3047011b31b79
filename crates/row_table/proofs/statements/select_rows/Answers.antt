use Rattle.std.proofs.lemmas.Result.{IfOk-weaker}
use Rattle.sqlite.specs.Held.{state}
use Rattle.row_table.proofs.Open.{survives_open}
use Rattle.row_table.proofs.Asked.{all_leave}
use Rattle.row_table.proofs.Lists.{lists}
use Rattle.row_table.proofs.Loaded.{all_listed}
use Rattle.row_table.proofs.statements.select_rows.Goals as goal

pub returns-clause-listed : goal.returns-clause-listed
returns-clause-listed g c clean store =
    IfOk-weaker c.query_all.result _ _
    (λ rows h all same. all_listed ((state g.S.Store c.args.conn.now).now.trees 0) rows.items all store.1 (lists (state g.S.Store c.args.conn.now) (state g.S.Store c.query_all.new.self) rows.items store.0 h) same)
    (c.query_all.ensures.ok clean)

pub returns-clause-left : goal.returns-clause-left
returns-clause-left g c clean =
    all_leave _ (state g.S.Store c.args.conn.now) (state g.S.Store c.query_all.new.self) (λ rows. rows.items) _ c.query_all.result (c.query_all.ensures.ok clean) (c.query_all.ensures.err clean)

pub returns-clause-stays : goal.returns-clause-stays
returns-clause-stays g c = survives_open _ _ _ c.query_all.ensures.survives
