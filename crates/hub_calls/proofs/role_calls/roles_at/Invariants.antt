use Rattle.std.proofs.Common.{◌≡◌, take, map}
use Rattle.hub_view.specs.Body.{bodies}
use Rattle.hub_calls.specs.Facts.{role_at}
use Rattle.hub_calls.proofs.role_calls.roles_at.Given as goal

abbrev pub invariant-loop-name : goal.invariant-loop-name
invariant-loop-name l = bodies l.bodies.items ≡ map (role_at l.hub) (take l.name-index l.names)
