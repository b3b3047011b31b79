use Rattle.std.proofs.Common.{Some, ap, ◌∙◌}
use Rattle.std.specs.FinMap.{insert}
use Rattle.route_table.specs.Path.{decoded_parts}
use Rattle.route_table.specs.Table.{new_route}
use Rattle.route_table.specs.Rows.{rows_of}
use Rattle.route_table.proofs.RowLemmas.{row_parts, row_key}
use Rattle.route_table.proofs.rows.replace_route.Goals as goal

pub route_of-requires : goal.route_of-requires
route_of-requires c =
    let here = rw c.as_slice.ensures.value at c.row_at-row.ensures in
    row_key c.args.rows.now.items c.args.at c.row_at-row.result.now c.requires.rows.rise here c.requires.rows.keys c.requires.at.within

pub returns-clause-ok : goal.returns-clause-ok
returns-clause-ok c =
    let here = rw c.as_slice.ensures.value at c.row_at-row.ensures in
    c.change_row.ensures.changed
    ∙ ap (λ r. insert (rows_of c.args.rows.now.items) (decoded_parts c.args.path.now) (record { route = Some r; seen = c.args.seen }))
    (c.in_ok-route.ensures ∙ ap (λ s. new_route s c.args.entry c.args.now)
    (row_parts c.args.rows.now.items c.args.at c.row_at-row.result.now c.requires.rows.rise here c.args.path.now c.requires.at))
