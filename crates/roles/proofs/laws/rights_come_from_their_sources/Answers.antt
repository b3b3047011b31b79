use Rattle.roles.proofs.Sources.{same_allowed}
use Rattle.roles.proofs.laws.rights_come_from_their_sources.Goals as goal

pub returns : goal.returns
returns c = same_allowed
