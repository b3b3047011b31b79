use Rattle.std.proofs.Common.{◌≡◌, map, take}
use Rattle.hub_serving.specs.Services.{service_of}
use Rattle.hub_serving.proofs.services.copies_of.Given as goal

abbrev pub invariant-loop-service : goal.invariant-loop-service
invariant-loop-service l = l.copies.items ≡ map service_of (take l.service-index l.services)
