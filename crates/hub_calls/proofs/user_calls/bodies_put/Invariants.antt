use Rattle.std.proofs.Common.{◌≡◌, ◌++◌, drop}
use Rattle.hub_view.specs.Body.{bodies}
use Rattle.hub_calls.specs.Puts.{bodies_put}
use Rattle.hub_calls.specs.Rights.{may_of}
use Rattle.hub_calls.proofs.user_calls.bodies_put.Given as goal

abbrev pub invariant-loop-row : goal.invariant-loop-row
invariant-loop-row l =
    bodies l.bodies.items ++ bodies_put (may_of l.hub l.rights) l.hub (drop l.row-index l.rows) ≡ bodies_put (may_of l.hub l.rights) l.hub l.rows
