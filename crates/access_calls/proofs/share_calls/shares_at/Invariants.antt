use Rattle.std.proofs.Common.{◌≡◌, take, map}
use Rattle.hub_view.specs.Body.{bodies}
use Rattle.access_calls.specs.ShareCalls.{share_at}
use Rattle.access_calls.proofs.share_calls.shares_at.Given as goal

abbrev pub invariant-loop-key : goal.invariant-loop-key
invariant-loop-key l = bodies l.bodies.items ≡ map (share_at l.hub) (take l.key-index l.keys)
