use Rattle.std.proofs.Common.{◌≡◌, ◌++◌, drop}
use Rattle.hub_rows.specs.SharedScopes.{without_scopes}
use Rattle.hub_rows.proofs.shared_scopes.without_scopes.Given as goal

-- those that are left so far, and of those to come
abbrev pub invariant-loop-scope : goal.invariant-loop-scope
invariant-loop-scope l = l.scopes.items ++ without_scopes l.less (drop l.scope-index l.kept) ≡ without_scopes l.less l.kept
