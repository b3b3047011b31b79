use Rattle.std.proofs.Common.{◌≡◌, ◌++◌, drop, map}
use Rattle.hub_view.specs.Json.{line}
use Rattle.hub_view.specs.Body.{bodies}
use Rattle.hub_view.proofs.parts.names.Given as goal

abbrev pub invariant-loop-name : goal.invariant-loop-name
invariant-loop-name g l =
    bodies l.items.items ++ map line (map g.N.Name.text (drop l.name-index l.names)) ≡ map line (map g.N.Name.text l.names)
