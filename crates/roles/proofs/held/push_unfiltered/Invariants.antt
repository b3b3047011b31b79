use Rattle.std.proofs.Common.{◌≡◌, ◌++◌, take, map}
use Rattle.scope_filters.specs.declared.scope.RawFilter.TheVariants.{Unfiltered}
use Rattle.scope_filters.specs.declared.scope.RawScope.TheVariants.{Plain}
use Rattle.roles.proofs.held.push_unfiltered.Given as goal

abbrev pub invariant-loop-action : goal.invariant-loop-action
invariant-loop-action l = l.scopes.items ≡ l.fn.scopes.items ++ map (λ action. Plain action Unfiltered) (take l.action-index l.actions)
