use Rattle.std.proofs.Common.{◌≡◌, drop, map}
use Rattle.hub_main.specs.Known.{first_unknown}
use Rattle.hub_main.proofs.known_names.first_unknown.Given as goal

abbrev pub invariant-loop-name : goal.invariant-loop-name
invariant-loop-name g l =
    first_unknown l.fn.known (map g.N.KeptName.of_kind (drop l.name-index l.fn.names)) ≡ first_unknown l.fn.known (map g.N.KeptName.of_kind l.fn.names)
