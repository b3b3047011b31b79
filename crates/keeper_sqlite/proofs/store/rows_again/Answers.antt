use Rattle.std.proofs.Common.{arith, IsTrue}
use Rattle.sqlite.specs.Held.{state}
use Rattle.sqlite.specs.State.{HasCleanDisk}
use Rattle.row_table.specs.Texts.{number_text}
use Rattle.keeper_sqlite.proofs.Open.{queried_open}
use Rattle.keeper_sqlite.proofs.Told.{loaded_again, again_stands, settled_by}
use Rattle.keeper_sqlite.proofs.store.rows_again.Goals as goal

pub returns-clause-loaded : goal.returns-clause-loaded
returns-clause-loaded g c clean =
    let old = c.args.conn.now in
    let new = c.find_form.new.conn in
    let is_of = c.in_ok-_form.ensures.form clean in
    let open_now : IsTrue (state g.S.Store new).is_open = queried_open number_text _ is_of.row (state g.S.Store old) (state g.S.Store new) is_of.queried in
    let was_clean : HasCleanDisk (state g.S.Store old) = omega (arith, c.find_form.ensures.clean, clean) in
    let all = c.requires was_clean (c.find_form.ensures.left clean open_now).0 in
    loaded_again g.S.Store c.in_ok-_form._form old new c.args.read.items open_now all.0 all.1 is_of

pub returns-clause-open : goal.returns-clause-open
returns-clause-open g c clean was_open =
    let is_of = c.in_ok-_form.ensures.form clean in
    queried_open number_text _ is_of.row (state g.S.Store c.args.conn.now) (state g.S.Store c.find_form.new.conn) is_of.queried

pub returns-clause-listed : goal.returns-clause-listed
returns-clause-listed g c clean open_now owned =
    let was_clean : HasCleanDisk (state g.S.Store c.args.conn.now) = omega (arith, c.find_form.ensures.clean, clean) in
    (c.requires was_clean (c.find_form.ensures.left clean open_now).0).1

pub returns-clause-stands : goal.returns-clause-stands
returns-clause-stands g c clean owned =
    let was_clean : HasCleanDisk (state g.S.Store c.args.conn.now) = omega (arith, c.find_form.ensures.clean, clean) in
    again_stands g.S.Store c.args.conn.now c.find_form.new.conn owned was_clean (λ was_open. (c.requires was_clean was_open).0)
    (settled_by g.S.Store c.args.conn.now c.is_autocommit-settled.result owned c.is_autocommit-settled.ensures.value c.is_autocommit-settled.ensures.settled) (c.find_form.ensures.left clean)

pub returns-in_err-_form-clause-stands : goal.returns-in_err-_form-clause-stands
returns-in_err-_form-clause-stands g c clean owned =
    let was_clean : HasCleanDisk (state g.S.Store c.args.conn.now) = omega (arith, c.find_form.ensures.clean, clean) in
    again_stands g.S.Store c.args.conn.now c.find_form.new.conn owned was_clean (λ was_open. (c.requires was_clean was_open).0)
    (settled_by g.S.Store c.args.conn.now c.is_autocommit-settled.result owned c.is_autocommit-settled.ensures.value c.is_autocommit-settled.ensures.settled) (c.find_form.ensures.left clean)
