use Rattle.std.proofs.Common.{◌≡◌, ◌++◌, drop}
use Rattle.std.specs.List.{filter}
use Rattle.hub_opening.proofs.configured.kept_names.Given as goal

abbrev pub invariant-loop-name : goal.invariant-loop-name
invariant-loop-name g l = l.kept.items ++ filter (g.N.Named.is_in l.tables) (drop l.name-index l.names) ≡ filter (g.N.Named.is_in l.tables) l.fn.names
