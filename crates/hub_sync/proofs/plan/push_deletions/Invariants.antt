use Rattle.std.proofs.Common.{◌≡◌, ◌++◌, take}
use Rattle.std.specs.List.{filter_map}
use Rattle.hub_sync.specs.Plans.{deletion_of}
use Rattle.hub_sync.proofs.plan.push_deletions.Given as goal

abbrev pub invariant-loop-route : goal.invariant-loop-route
invariant-loop-route g l = l.calls.items ≡ l.initial.calls.items ++ filter_map (deletion_of l.book.hub.lives) (take l.route-index l.listed)
