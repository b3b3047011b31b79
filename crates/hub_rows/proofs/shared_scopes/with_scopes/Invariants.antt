use Rattle.std.proofs.Common.{◌≡◌, drop}
use Rattle.hub_rows.specs.SharedScopes.{with_scopes}
use Rattle.hub_rows.proofs.shared_scopes.with_scopes.Given as goal

abbrev pub invariant-loop-scope : goal.invariant-loop-scope
invariant-loop-scope l = with_scopes (drop l.scope-index l.more) l.scopes.items ≡ with_scopes l.more l.kept
