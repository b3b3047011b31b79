use Rattle.std.proofs.Common.{◌≡◌, take, map}
use Rattle.hub_view.specs.Body.{bodies}
use Rattle.access_calls.specs.CodeCalls.{code_at}
use Rattle.access_calls.proofs.code_calls.codes_at.Given as goal

abbrev pub invariant-loop-id : goal.invariant-loop-id
invariant-loop-id l = bodies l.bodies.items ≡ map (code_at l.hub) (take l.id-index l.ids)
