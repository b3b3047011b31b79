use Rattle.std.proofs.Common.{◌≡◌, ◌++◌, length}
use Rattle.std.specs.Vec.Iter.{into_iter_items, into_iter_len}
use Rattle.row_rules.specs.Judged.{HasSeen, IsLedger}
use Rattle.row_rules.proofs.Way.{IsOnWay}
use Rattle.row_rules.proofs.judged.put_judged.Given as goal

abbrev pub invariant-loop-row : goal.invariant-loop-row
invariant-loop-row l = (l.yielded ++ into_iter_items l.row-iterator ≡ l.fn.rows.items)
    × (into_iter_len l.row-iterator ≡ length (into_iter_items l.row-iterator))
    × (l.place ≡ length l.yielded)
    × IsLedger l.tables l.ledger
    × HasSeen l.seen l.yielded
    × IsOnWay l.fn.tables l.fn.rows.items l.yielded (into_iter_items l.row-iterator) l.tables
