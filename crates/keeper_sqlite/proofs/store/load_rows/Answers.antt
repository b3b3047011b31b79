use Rattle.std.proofs.Common.{◌≡◌, [], arith, rules, sym, subst}
use Rattle.std.proofs.lemmas.Bool.{both_ways}
use Rattle.keeper.specs.Rows.{Lists}
use Rattle.sqlite.specs.Held.{state}
use Rattle.sqlite.specs.State.{HasCleanDisk}
use Rattle.keeper_sqlite.specs.Own.{told_rows}
use Rattle.keeper_sqlite.specs.Statements.{HasNoTables}
use Rattle.keeper_sqlite.proofs.Inside.{all_loaded}
use Rattle.keeper_sqlite.proofs.Open.{on_ok}
use Rattle.row_table.specs.Texts.{select_text}
use Rattle.row_table.proofs.Open.{still_open, open_then, shown_open}
use Rattle.keeper_sqlite.proofs.Told.{number_stands, rows_stand, loaded_listed, settled_by, empty_listed}
use Rattle.keeper_sqlite.proofs.store.load_rows.Goals as goal

pub returns-clause-loaded : goal.returns-clause-loaded
returns-clause-loaded g c clean =
    all_loaded g.S.Store c.args.conn.now c.find_form.new.conn c.select_rows.new.conn c.in_ok-_form._form c.in_ok-select_rows.field-0.items c.rows_of.result (λ all. all.items)
    c.rows_of.ensures (λ none. both_ways c.is_empty.result c.if-is_empty.false (c.is_empty.ensures.only none))
    (c.in_ok-_form.ensures.form (omega (arith, c.select_rows.ensures.clean, clean))) (c.in_ok-select_rows.ensures.shown clean)

pub returns-then-is_empty-clause-listed : goal.returns-then-is_empty-clause-listed
returns-then-is_empty-clause-listed g c clean open_now owned =
    let none : c.new.result.items ≡ [] = search rules in
    subst (Lists (told_rows g.S.Store c.args.conn.now)) (sym none) (empty_listed g.S.Store c.args.conn.now (owned.store clean open_now) (c.is_empty.ensures.empty c.if-is_empty.true))

pub returns-in_err-_form-clause-stands : goal.returns-in_err-_form-clause-stands
returns-in_err-_form-clause-stands g c clean owned =
    let some : ¬ HasNoTables (state g.S.Store c.args.conn.now).now.schema = λ none. both_ways c.is_empty.result c.if-is_empty.false (c.is_empty.ensures.only none) in
    number_stands g.S.Store c.args.conn.now c.find_form.new.conn owned (omega (arith, c.find_form.ensures.clean, clean)) some
    (settled_by g.S.Store c.args.conn.now c.is_autocommit-settled.result owned c.is_autocommit-settled.ensures.value c.is_autocommit-settled.ensures.settled) (c.find_form.ensures.left clean)

pub returns-in_err-select_rows-clause-stands : goal.returns-in_err-select_rows-clause-stands
returns-in_err-select_rows-clause-stands g c clean owned =
    let some : ¬ HasNoTables (state g.S.Store c.args.conn.now).now.schema = λ none. both_ways c.is_empty.result c.if-is_empty.false (c.is_empty.ensures.only none) in
    rows_stand g.S.Store c.args.conn.now c.find_form.new.conn owned (omega (arith, c.find_form.ensures.clean, c.select_rows.ensures.clean, clean)) some
    (settled_by g.S.Store c.args.conn.now c.is_autocommit-settled.result owned c.is_autocommit-settled.ensures.value c.is_autocommit-settled.ensures.settled)
    (c.find_form.ensures.left (omega (arith, c.select_rows.ensures.clean, clean))) c.select_rows.new.conn (c.select_rows.ensures.left clean)

pub returns-clause-stands : goal.returns-clause-stands
returns-clause-stands g c clean owned =
    let some : ¬ HasNoTables (state g.S.Store c.args.conn.now).now.schema = λ none. both_ways c.is_empty.result c.if-is_empty.false (c.is_empty.ensures.only none) in
    rows_stand g.S.Store c.args.conn.now c.find_form.new.conn owned (omega (arith, c.find_form.ensures.clean, c.select_rows.ensures.clean, clean)) some
    (settled_by g.S.Store c.args.conn.now c.is_autocommit-settled.result owned c.is_autocommit-settled.ensures.value c.is_autocommit-settled.ensures.settled)
    (c.find_form.ensures.left (omega (arith, c.select_rows.ensures.clean, clean))) c.select_rows.new.conn (c.select_rows.ensures.left clean)

pub returns-clause-listed : goal.returns-clause-listed
returns-clause-listed g c clean open_now owned =
    let old_clean : HasCleanDisk (state g.S.Store c.args.conn.now) = omega (arith, c.find_form.ensures.clean, c.select_rows.ensures.clean, clean) in
    loaded_listed g.S.Store c.args.conn.now c.select_rows.new.conn (λ all. all.items) c.rows_of.result owned old_clean
    (c.find_form.ensures.left (omega (arith, c.select_rows.ensures.clean, clean)) (c.select_rows.ensures.left clean open_now).0).0
    (all_loaded g.S.Store c.args.conn.now c.find_form.new.conn c.select_rows.new.conn c.in_ok-_form._form c.in_ok-select_rows.field-0.items c.rows_of.result (λ all. all.items)
    c.rows_of.ensures (λ none. both_ways c.is_empty.result c.if-is_empty.false (c.is_empty.ensures.only none))
    (c.in_ok-_form.ensures.form (omega (arith, c.select_rows.ensures.clean, clean))) (c.in_ok-select_rows.ensures.shown clean))

pub returns-clause-open : goal.returns-clause-open
returns-clause-open g c clean open_before =
    on_ok c.rows_of.result
    (shown_open select_text [] (state g.S.Store c.find_form.new.conn) (state g.S.Store c.select_rows.new.conn) c.in_ok-select_rows.field-0.items (c.in_ok-select_rows.ensures.shown clean))

pub returns-then-is_empty-clause-stays : goal.returns-then-is_empty-clause-stays
returns-then-is_empty-clause-stays g c = still_open (state g.S.Store c.args.conn.now)

pub returns-in_err-select_rows-clause-stays : goal.returns-in_err-select_rows-clause-stays
returns-in_err-select_rows-clause-stays g c =
    open_then (state g.S.Store c.args.conn.now) (state g.S.Store c.find_form.new.conn) (state g.S.Store c.select_rows.new.conn) c.find_form.ensures.stays c.select_rows.ensures.clean c.select_rows.ensures.stays

pub returns-clause-stays : goal.returns-clause-stays
returns-clause-stays g c =
    open_then (state g.S.Store c.args.conn.now) (state g.S.Store c.find_form.new.conn) (state g.S.Store c.select_rows.new.conn) c.find_form.ensures.stays c.select_rows.ensures.clean c.select_rows.ensures.stays
