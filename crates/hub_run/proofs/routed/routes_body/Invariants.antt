use Rattle.std.proofs.Common.{◌≡◌, take, map}
use Rattle.hub_devices.specs.declared.calls.ListedRoute.{ListedRoute}
use Rattle.hub_view.specs.Body.{members}
use Rattle.hub_run.specs.Routed.{route_body}
use Rattle.hub_run.proofs.routed.routes_body.Given as goal

abbrev pub invariant-loop-route : goal.invariant-loop-route
invariant-loop-route l = members l.fields.items ≡ map (λ (r : ListedRoute). (r.path, route_body r)) (take l.route-index l.routes)
