use Rattle.std.proofs.Common.{◌≡◌, map, take}
use Rattle.late_routes.specs.Arrivals.{listed_of}
use Rattle.late_routes.proofs.late.copies.Given as goal

abbrev pub invariant-routes : goal.invariant-routes
invariant-routes l = l.copies.items ≡ map listed_of (take l.route-index l.routes)
