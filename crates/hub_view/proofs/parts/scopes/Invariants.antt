use Rattle.std.proofs.Common.{◌≡◌, ◌++◌, drop, map}
use Rattle.scope_filters.specs.Scopes.{scope_text}
use Rattle.hub_view.specs.Json.{line}
use Rattle.hub_view.specs.Body.{bodies}
use Rattle.hub_view.proofs.parts.scopes.Given as goal

abbrev pub invariant-loop-scope : goal.invariant-loop-scope
invariant-loop-scope l =
    bodies l.items.items ++ map line (map scope_text (drop l.scope-index l.scopes)) ≡ map line (map scope_text l.scopes)
