use Rattle.std.proofs.Common.{refl}
use Rattle.row_table.proofs.Rising.{head_ours}
use Rattle.row_table.proofs.rows.are_ours.Goals as goal

pub returns-in_default-clause-only : goal.returns-in_default-clause-only
returns-in_default-clause-only c ours =
    let head = head_ours c.args.rows.now c.loop-row.row-index c.row-item.result c.loop-row.last c.loop-row-test.true c.row-item.is (c.loop-row.invariant.1 ours) in
    absurd (c.in_default.ensures.none refl head.0 head.1)
