use Rattle.route_table.proofs.RowLemmas.{row_there}
use Rattle.route_table.proofs.rows.seen_at.Goals as goal

pub returns : goal.returns
returns c =
    let here = rw c.as_slice.ensures.value at c.row_at.ensures in
    (c.row_at.result.now.route, row_there c.args.rows.now.items c.args.at c.row_at.result.now c.requires.rows.rise here c.args.path.now c.requires.at)
