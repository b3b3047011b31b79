use Rattle.hub_core.proofs.OneAnswer.{one_answer}
use Rattle.hub_core.proofs.laws.a_call_has_one_answer.Goals as goal

pub returns : goal.returns
returns c = one_answer
