use Rattle.hub_serving.proofs.Planned.{wanting_plan}
use Rattle.hub_serving.proofs.plan.read_plan.Goals as goal

pub returns-in-Err-Memory-clause-err : goal.returns-in-Err-Memory-clause-err
returns-in-Err-Memory-clause-err g c = wanting_plan _ _
