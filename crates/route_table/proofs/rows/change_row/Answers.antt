use Rattle.std.proofs.Common.{ap, ◌∙◌}
use Rattle.std.specs.FinMap as fin
use Rattle.route_table.specs.Path.{parts, decoded_parts}
use Rattle.route_table.specs.Rows.{rows_of}
use Rattle.route_table.proofs.RowLemmas.{key_of, kept_of}
use Rattle.route_table.proofs.EditLemmas.{rows_set}
use Rattle.route_table.proofs.rows.change_row.Goals as goal

pub returns-clause-changed : goal.returns-clause-changed
returns-clause-changed c =
    rows_set c.args.rows.now.items c.args.path.now c.args.at c.write_row.new.row c.requires.rows.rise c.requires.at
    (ap (λ v. parts v.key) c.write_row.ensures ∙ (ap key_of c.index_mut-row.ensures.value ∙ c.requires.at.same c.index_mut-row.result.now))
    ∙ ap (λ v. fin.insert (rows_of c.args.rows.now.items) (decoded_parts c.args.path.now) v) (ap kept_of c.write_row.ensures)
