use Rattle.std.proofs.Common.{◌≡◌, drop}
use Rattle.admin_rules.specs.Rules.{first_unkept}
use Rattle.admin_rules.proofs.roles.unkept_service.Given as goal

abbrev pub invariant-loop-service : goal.invariant-loop-service
invariant-loop-service l = first_unkept l.tables.services (drop l.service-index l.services) ≡ first_unkept l.tables.services l.services
