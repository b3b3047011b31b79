use Rattle.std.proofs.Common.{◌≡◌, take, map}
use Rattle.hub_view.specs.Body.{bodies}
use Rattle.hub_calls.specs.Rights.{may_of}
use Rattle.hub_calls.proofs.lists.bodies_of.Given as goal

abbrev pub invariant-loop-name : goal.invariant-loop-name
invariant-loop-name g l = bodies l.bodies.items ≡ map (g.K.Shown.shown (may_of l.hub l.rights) l.hub) (take l.name-index l.names)
