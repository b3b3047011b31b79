use Rattle.std.proofs.Common.{◌≡◌, take, map}
use Rattle.hub_view.specs.Body.{bodies}
use Rattle.access_calls.specs.TokenCalls.{token_at}
use Rattle.access_calls.proofs.token_calls.tokens_at.Given as goal

abbrev pub invariant-loop-id : goal.invariant-loop-id
invariant-loop-id l = bodies l.bodies.items ≡ map (token_at l.hub) (take l.id-index l.ids)
