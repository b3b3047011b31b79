use Rattle.std.proofs.Common.{is_some, sym, ap, ◌∙◌}
use Rattle.route_table.specs.Table.{route_of}
use Rattle.route_table.proofs.RowLemmas.{row_there}
use Rattle.route_table.proofs.rows.is_listed_at.Goals as goal

pub returns : goal.returns
returns c =
    let here = rw c.as_slice.ensures.value at c.row_at.ensures in
    c.is_some.ensures
    ∙ ap (λ o. is_some (route_of o)) (sym (row_there c.args.rows.now.items c.args.at c.row_at.result.now c.requires.rows.rise here c.args.path.now c.requires.at))
