use Rattle.std.proofs.Common.{◌∷◌, ◌++◌, [], List, ap, ◌∙◌}
use Rattle.scope_names.specs.declared.action.Action.{Action}
use Rattle.scope_names.specs.declared.action.Action.TheVariants.{Custom}
use Rattle.scope_names.proofs.Growth.{map_more}
use Rattle.scope_names.proofs.coverage.push_names.Goals as goal

pub loop-name-preserved : goal.loop-name-preserved
loop-name-preserved c = c.in_ok-push.ensures.items ∙ ap (λ (ys : List Action). ys ++ Custom c.name-item.result ∷ []) c.loop-name.invariant ∙ map_more Custom c.args.pending.now.items c.args.names.now c.loop-name.name-index c.name-item.result c.loop-name-test.true c.name-item.is
