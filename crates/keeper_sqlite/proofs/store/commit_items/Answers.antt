use Rattle.std.proofs.Common.{◌≡◌, OnOk, arith, rules, subst}
use Rattle.sqlite.specs.State.{HasCleanDisk}
use Rattle.sqlite.specs.Held.{state}
use Rattle.row_table.specs.Open.{StaysOpen}
use Rattle.row_table.proofs.Open.{open_then, survives_open}
use Rattle.keeper_sqlite.specs.Statements.{IsCommitted}
use Rattle.keeper_sqlite.proofs.Inside.{all_committed}
use Rattle.keeper_sqlite.proofs.Open.{begun_open}
use Rattle.keeper_sqlite.proofs.store.commit_items.Goals as goal

pub returns-clause-done : goal.returns-clause-done
returns-clause-done g c clean =
    let old = c.args.conn.now in
    let begun = c.renew.new.tx.conn.now in
    let last = c.do_items.new.tx.conn.now in
    let end = c.commit.new.self.0 in
    let same : end ≡ c.conn-2-1.given.0 = search rules in
    let late : HasCleanDisk (state g.S.Store end) = search rules in
    let clean_last : HasCleanDisk (state g.S.Store last) = omega (arith, c.commit.ensures.survives.clean, late) in
    let clean_begun : HasCleanDisk (state g.S.Store begun) = omega (arith, c.do_items.ensures.clean, clean_last) in
    let inside = (c.in_ok-renew.ensures.kept clean_begun (rw c.transaction-tx.ensures.begun)).1 in
    subst (λ h. OnOk c.commit.result (IsCommitted g.S.Store c.args.items.now old h)) same
    (all_committed g.S.Store c.args.items.now old begun last end c.commit.result (c.commit.ensures.ok late) c.is_empty-is_empty.result c.is_empty-is_empty.ensures.empty c.is_empty-is_empty.ensures.only
    (rw c.transaction-tx.ensures.begun at c.in_ok-renew.ensures.renewed clean_begun) (c.in_ok-do_items.ensures.done clean_last inside))

pub returns-clause-stays : goal.returns-clause-stays
returns-clause-stays g c =
    let old = c.args.conn.now in
    let begun = c.renew.new.tx.conn.now in
    let last = c.do_items.new.tx.conn.now in
    let end = c.commit.new.self.0 in
    let same : end ≡ c.conn-2-1.given.0 = search rules in
    let first = begun_open g.S.Store old begun (rw c.transaction-tx.ensures.begun at c.renew.ensures.stays) in
    let done = open_then (state g.S.Store old) (state g.S.Store begun) (state g.S.Store last) first c.do_items.ensures.clean c.do_items.ensures.stays in
    subst (λ h. StaysOpen (state g.S.Store old) (state g.S.Store h)) same
    (open_then (state g.S.Store old) (state g.S.Store last) (state g.S.Store end) done c.commit.ensures.survives.clean (survives_open _ _ _ c.commit.ensures.survives))

pub returns-in_err-renew-clause-stays : goal.returns-in_err-renew-clause-stays
returns-in_err-renew-clause-stays g c =
    let old = c.args.conn.now in
    let begun = c.renew.new.tx.conn.now in
    let end = c.drop-tx.new.self.0 in
    let same : end ≡ c.conn-1.given.0 = search rules in
    let first = begun_open g.S.Store old begun (rw c.transaction-tx.ensures.begun at c.renew.ensures.stays) in
    subst (λ h. StaysOpen (state g.S.Store old) (state g.S.Store h)) same
    (open_then (state g.S.Store old) (state g.S.Store begun) (state g.S.Store end) first c.drop-tx.ensures.survives.clean (survives_open _ _ _ c.drop-tx.ensures.survives))

pub returns-in_err-do_items-clause-stays : goal.returns-in_err-do_items-clause-stays
returns-in_err-do_items-clause-stays g c =
    let old = c.args.conn.now in
    let begun = c.renew.new.tx.conn.now in
    let last = c.do_items.new.tx.conn.now in
    let end = c.drop-tx-in_err-do_items.new.self.0 in
    let same : end ≡ c.conn-in_err-do_items-1.given.0 = search rules in
    let first = begun_open g.S.Store old begun (rw c.transaction-tx.ensures.begun at c.renew.ensures.stays) in
    let done = open_then (state g.S.Store old) (state g.S.Store begun) (state g.S.Store last) first c.do_items.ensures.clean c.do_items.ensures.stays in
    subst (λ h. StaysOpen (state g.S.Store old) (state g.S.Store h)) same
    (open_then (state g.S.Store old) (state g.S.Store last) (state g.S.Store end) done c.drop-tx-in_err-do_items.ensures.survives.clean
    (survives_open _ _ _ c.drop-tx-in_err-do_items.ensures.survives))
