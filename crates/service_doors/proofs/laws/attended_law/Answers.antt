use Rattle.service_doors.proofs.Lived.{attended}
use Rattle.service_doors.proofs.laws.attended_law.Goals as goal

pub returns : goal.returns
returns c = attended
