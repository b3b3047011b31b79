use Rattle.hub_serving.proofs.Lawful.{planned}
use Rattle.hub_serving.proofs.laws.planned_law.Goals as goal

pub returns : goal.returns
returns c = planned
