use Rattle.std.proofs.Common.{◌≡◌, ◌++◌, drop, map}
use Rattle.hub_main.proofs.known_names.push_configured.Given as goal

abbrev pub invariant-loop-row : goal.invariant-loop-row
invariant-loop-row g l =
    l.names.items ++ map g.T.Named.name (drop l.row-index l.fn.configured) ≡ l.fn.names.items ++ map g.T.Named.name l.fn.configured
