use Rattle.scope_filters.specs.declared.scope.RawFilter.TheVariants.{Unfiltered}
use Rattle.scope_filters.specs.declared.scope.RawScope.TheVariants.{Plain}
use Rattle.roles.proofs.Walks.{map_more, map_all}
use Rattle.roles.proofs.held.push_unfiltered.Goals as goal

pub loop-action-preserved : goal.loop-action-preserved
loop-action-preserved c =
    map_more (λ action. Plain action Unfiltered) c.args.scopes.now.items c.loop-action.scopes.items _ c.args.actions.now c.loop-action.action-index c.action-item.result c.action-item.is c.loop-action-test.true c.loop-action.invariant c.in_ok-push.ensures.items

pub returns : goal.returns
returns c = map_all (λ action. Plain action Unfiltered) c.args.scopes.now.items _ c.args.actions.now c.loop-action.action-index c.loop-action-test.false c.loop-action.invariant
