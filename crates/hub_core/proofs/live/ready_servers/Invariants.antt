use Rattle.std.proofs.Common.{◌≡◌, ◌++◌}
use Rattle.hub_core.specs.Live.{ready_among}
use Rattle.hub_core.proofs.live.ready_servers.Given as goal

-- those so far, and those of the leases to come
abbrev pub invariant-loop-lease : goal.invariant-loop-lease
invariant-loop-lease l = l.servers.items ++ ready_among l.lease-iterator ≡ ready_among l.initial.lease-iterator
