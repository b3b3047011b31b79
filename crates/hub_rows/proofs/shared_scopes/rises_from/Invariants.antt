use Rattle.std.proofs.Common.{◌≡◌, drop}
use Rattle.keyed_rows.specs.Sorted as sorted
use Rattle.hub_rows.specs.SharedScopes.{scope_cmp}
use Rattle.hub_rows.proofs.shared_scopes.rises_from.Given as goal

abbrev pub invariant-loop-scope : goal.invariant-loop-scope
invariant-loop-scope l = sorted.rises_from scope_cmp l.last (drop l.scope-index l.scopes) ≡ sorted.rises_from scope_cmp l.fn.first l.fn.scopes
