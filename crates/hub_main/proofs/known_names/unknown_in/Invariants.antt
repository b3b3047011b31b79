use Rattle.std.proofs.Common.{◌≡◌, drop}
use Rattle.std.specs.List.{flat_map}
use Rattle.hub_main.specs.Known.{first_unknown}
use Rattle.hub_main.proofs.known_names.unknown_in.Given as goal

abbrev pub invariant-loop-row : goal.invariant-loop-row
invariant-loop-row g l =
    first_unknown l.fn.known (flat_map g.T.Naming.names (drop l.row-index l.fn.rows)) ≡ first_unknown l.fn.known (flat_map g.T.Naming.names l.fn.rows)
