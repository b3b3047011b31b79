use Rattle.std.proofs.Common.{◌∷◌, ◌++◌, [], List, ap, ◌∙◌}
use Rattle.scope_names.specs.declared.action.Action.{Action}
use Rattle.scope_names.specs.declared.action.Action.TheVariants.{Custom}
use Rattle.scope_names.specs.Actions.{listed}
use Rattle.scope_names.proofs.Growth.{map_more}
use Rattle.scope_names.proofs.coverage.known.Goals as goal

pub loop-row-preserved : goal.loop-row-preserved
loop-row-preserved c = c.in_ok-push.ensures.items ∙ ap (λ (ys : List Action). ys ++ Custom c.row-item.result.name ∷ []) c.loop-row.invariant ∙ map_more (λ row. Custom row.name) listed c.args.rows.now c.loop-row.row-index c.row-item.result c.loop-row-test.true c.row-item.is
