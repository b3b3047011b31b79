use Rattle.std.proofs.Common.{◌≡◌, take, flat_map}
use Rattle.std.specs.FinMap as map
use Rattle.hub_calls.specs.Facts.{facts_at}
use Rattle.hub_calls.proofs.facts.servers_at.Given as goal

abbrev pub invariant-loop-key : goal.invariant-loop-key
invariant-loop-key l = l.servers.items ≡ flat_map (λ key. facts_at l.hub.lives (map.get l.hub.tables.servers key)) (take l.key-index l.keys)
