use Rattle.std.proofs.Common.{ap, ◌∙◌}
use Rattle.route_table.specs.Rows.{rows_of}
use Rattle.route_table.proofs.EditLemmas.{rows_remove}
use Rattle.route_table.proofs.rows.remove_row.Goals as goal

pub returns-clause-changed : goal.returns-clause-changed
returns-clause-changed c = ap rows_of c.remove-gone.ensures.items ∙ rows_remove c.args.rows.now.items c.args.path.now c.args.at c.requires.rows.rise c.requires.at c.remove-gone.result
