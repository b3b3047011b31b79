use Rattle.std.proofs.Common.{◌≡◌, drop}
use Rattle.scope_filters.specs.Known.{unknown_scope}
use Rattle.scope_filters.proofs.known.unknown_scope.Given as goal

abbrev pub invariant-loop-scope : goal.invariant-loop-scope
invariant-loop-scope l = unknown_scope l.table (drop l.scope-index l.scopes) ≡ unknown_scope l.table l.scopes
