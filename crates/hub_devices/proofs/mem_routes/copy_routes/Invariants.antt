use Rattle.std.proofs.Common.{◌≡◌, take}
use Rattle.hub_devices.proofs.mem_routes.copy_routes.Given as goal

abbrev pub invariant-loop-route : goal.invariant-loop-route
invariant-loop-route l = l.copies.items ≡ take l.route-index l.routes
