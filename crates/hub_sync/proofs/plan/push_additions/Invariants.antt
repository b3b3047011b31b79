use Rattle.std.proofs.Common.{◌≡◌, ◌++◌, take}
use Rattle.std.specs.List.{filter_map}
use Rattle.hub_sync.specs.Plans.{addition_of}
use Rattle.hub_sync.proofs.plan.push_additions.Given as goal

abbrev pub invariant-loop-live : goal.invariant-loop-live
invariant-loop-live l = l.calls.items ≡ l.initial.calls.items ++ filter_map (addition_of l.listed) (take l.live-index l.servers)
