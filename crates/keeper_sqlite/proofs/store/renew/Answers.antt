use Rattle.std.proofs.Common.{arith}
use Rattle.sqlite.specs.Held.{state}
use Rattle.row_table.proofs.Open.{open_then}
use Rattle.keeper_sqlite.proofs.Inside.{known_renewed}
use Rattle.keeper_sqlite.proofs.store.renew.Goals as goal

pub returns-clause-renewed : goal.returns-clause-renewed
returns-clause-renewed g c clean =
    rw c.if-is_empty.false
    (known_renewed g.S.Store c.args.tx.now.conn.now c.find_number.new.tx.conn.now c.raise.new.tx.conn.now _ _ c.raise.result
    (c.in_ok-row.ensures.found (omega (arith, c.raise.ensures.clean, clean))) c.in_ok-form_in.ensures (c.raise.ensures.raised clean))

pub returns-clause-stays : goal.returns-clause-stays
returns-clause-stays g c =
    open_then (state g.S.Store c.args.tx.now.conn.now) (state g.S.Store c.find_number.new.tx.conn.now) (state g.S.Store c.raise.new.tx.conn.now) c.find_number.ensures.stays c.raise.ensures.clean c.raise.ensures.stays
