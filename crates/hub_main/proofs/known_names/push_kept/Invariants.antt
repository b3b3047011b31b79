use Rattle.std.proofs.Common.{◌≡◌, ◌++◌, drop}
use Rattle.std.specs.List.{filter_map}
use Rattle.hub_main.proofs.known_names.push_kept.Given as goal

abbrev pub invariant-loop-row : goal.invariant-loop-row
invariant-loop-row g l =
    l.names.items ++ filter_map g.N.KeptName.name_in (drop l.row-index l.fn.kept) ≡ l.fn.names.items ++ filter_map g.N.KeptName.name_in l.fn.kept
