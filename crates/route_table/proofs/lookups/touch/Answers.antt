use Rattle.route_table.proofs.EditLemmas.{touched_rows}
use Rattle.route_table.proofs.lookups.touch.Goals as goal

pub returns-clause-changed : goal.returns-clause-changed
returns-clause-changed c k r is listed =
    touched_rows c.args.rows.now.items c.args.at c.index_mut-row.result.now c.touch_row.new.row c.args.now c.requires.rows.rise
    c.index_mut-row.ensures.value c.touch_row.ensures k r is listed
