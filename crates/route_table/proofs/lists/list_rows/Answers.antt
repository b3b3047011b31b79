use Rattle.std.proofs.Common.{◌∙◌}
use Rattle.route_table.proofs.ListLemmas.{listed_rows}
use Rattle.route_table.proofs.lists.list_rows.Goals as goal

pub returns : goal.returns
returns c = c.from_vec.ensures ∙ (c.in_ok-found.ensures ∙ listed_rows c.args.since c.args.rows.now c.requires)
