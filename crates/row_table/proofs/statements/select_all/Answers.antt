use Rattle.std.proofs.lemmas.Result.{IfOk-weaker}
use Rattle.sqlite.specs.Held.{state}
use Rattle.row_table.proofs.Open.{survives_open, shown_open}
use Rattle.row_table.proofs.Asked.{all_leave}
use Rattle.row_table.specs.Texts.{all_text}
use Rattle.row_table.proofs.Lists.{all_shown, all_ours}
use Rattle.row_table.proofs.Refused.{unread_if}
use Rattle.row_table.proofs.statements.select_all.Goals as goal

pub returns-clause-left : goal.returns-clause-left
returns-clause-left g c clean =
    all_leave _ (state g.S.Store c.args.conn.now) (state g.S.Store c.query_all.new.self) (λ rows. rows.items) _ c.query_all.result (c.query_all.ensures.ok clean) (c.query_all.ensures.err clean)

pub returns-clause-whole : goal.returns-clause-whole
returns-clause-whole g c clean has =
    IfOk-weaker c.query_all.result _ _ (λ rows h. all_shown (state g.S.Store c.args.conn.now) (state g.S.Store c.query_all.new.self) rows.items has h) (c.query_all.ensures.ok clean)

pub returns-clause-open : goal.returns-clause-open
returns-clause-open g c clean =
    IfOk-weaker c.query_all.result _ _ (λ rows h. shown_open all_text _ (state g.S.Store c.args.conn.now) (state g.S.Store c.query_all.new.self) rows.items h) (c.query_all.ensures.ok clean)

pub returns-clause-ours : goal.returns-clause-ours
returns-clause-ours g c clean store =
    IfOk-weaker c.query_all.result _ _ (λ rows h. all_ours (state g.S.Store c.args.conn.now) (state g.S.Store c.query_all.new.self) rows.items store h) (c.query_all.ensures.ok clean)

pub returns-clause-unread : goal.returns-clause-unread
returns-clause-unread g c clean has = unread_if (state g.S.Store c.args.conn.now) (state g.S.Store c.query_all.new.self) c.query_all.result has (c.query_all.ensures.err clean)

pub returns-clause-stays : goal.returns-clause-stays
returns-clause-stays g c = survives_open _ _ _ c.query_all.ensures.survives
