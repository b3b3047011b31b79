use Rattle.std.proofs.Common.{Some, ap, ◌∙◌}
use Rattle.std.specs.FinMap.{insert}
use Rattle.route_table.specs.Path.{decoded_parts}
use Rattle.route_table.specs.Table.{new_route}
use Rattle.route_table.specs.Rows.{rows_of}
use Rattle.route_table.proofs.rows.add_route.Goals as goal

pub returns-clause-ok : goal.returns-clause-ok
returns-clause-ok c =
    c.in_ok-add_row.ensures.ok
    ∙ ap (λ r. insert (rows_of c.args.rows.now.items) (decoded_parts c.args.path.now) (record { route = Some r; seen = c.args.entry.serial }))
    (c.in_ok-route.ensures ∙ ap (λ s. new_route s c.args.entry c.args.now) c.in_ok-key.ensures.parts)
