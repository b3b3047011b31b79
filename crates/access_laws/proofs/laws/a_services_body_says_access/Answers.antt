use Rattle.access_laws.proofs.Saying.{service_says}
use Rattle.access_laws.proofs.laws.a_services_body_says_access.Goals as goal

pub returns : goal.returns
returns c = service_says
