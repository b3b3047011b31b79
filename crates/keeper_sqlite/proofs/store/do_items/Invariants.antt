use Rattle.std.proofs.Common.{◌≡◌, ◌≤◌, take, IsTrue}
use Rattle.sqlite.specs.View.{doubt}
use Rattle.sqlite.specs.State.{HasCleanDisk, KeepsCommit}
use Rattle.sqlite.specs.Held.{state}
use Rattle.row_table.specs.Open.{StaysOpen}
use Rattle.keeper_sqlite.specs.Statements.{AreDone}
use Rattle.keeper_sqlite.proofs.store.do_items.Given as goal

abbrev pub invariant-loop-item : goal.invariant-loop-item
invariant-loop-item g l =
    (l.tx.conn.ghost_name ≡ l.initial.tx.conn.ghost_name)
    × (doubt (state g.S.Store l.initial.tx.conn.now).is_clean ≤ doubt (state g.S.Store l.tx.conn.now).is_clean)
    × StaysOpen (state g.S.Store l.initial.tx.conn.now) (state g.S.Store l.tx.conn.now)
    × (HasCleanDisk (state g.S.Store l.tx.conn.now) → IsTrue (state g.S.Store l.initial.tx.conn.now).in_transaction
    → KeepsCommit (state g.S.Store l.initial.tx.conn.now) (state g.S.Store l.tx.conn.now) × IsTrue (state g.S.Store l.tx.conn.now).in_transaction × AreDone g.S.Store (take l.item-index l.items) l.initial.tx.conn.now l.tx.conn.now)
