use Rattle.admin_rules.proofs.Plain.{service_plain}
use Rattle.admin_rules.proofs.services.delete_service.Goals as goal

pub returns-clause-plain : goal.returns-clause-plain
returns-clause-plain c = service_plain c.args.tables.now c.args.service.now _ c.in_ok-service_rows.ensures
