use Rattle.std.proofs.Common.{◌≡◌, ◌++◌}
use Rattle.hub_core.specs.Live.{adopting_among}
use Rattle.hub_core.proofs.live.adopting_servers.Given as goal

-- those so far, and those of the leases to come
abbrev pub invariant-loop-lease : goal.invariant-loop-lease
invariant-loop-lease l = l.servers.items ++ adopting_among l.lease-iterator ≡ adopting_among l.initial.lease-iterator
