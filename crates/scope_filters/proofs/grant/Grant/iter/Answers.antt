use Rattle.std.proofs.Common.{ap, sym, ◌∙◌}
use Rattle.std.specs.FinMap as map
use Rattle.scope_names.specs.ActionOrder.{actions_total}
use Rattle.keyed_rows.proofs.Finite.{entries_row}
use Rattle.scope_filters.proofs.grant.Grant.iter.Goals as goal

pub returns-clause-items : goal.returns-clause-items
returns-clause-items c = c.iter.ensures.rest ∙ sym (entries_row actions_total c.self.inside.rows c.iter.ensures.ordered) ∙ ap map.entries c.self.view_is
