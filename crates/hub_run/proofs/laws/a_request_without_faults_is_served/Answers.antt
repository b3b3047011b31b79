use Rattle.hub_core.proofs.OneAnswer.{one_answer}
use Rattle.hub_core.proofs.Places.{one_state}
use Rattle.hub_run.proofs.CompleteLemmas.{its_reply}
use Rattle.hub_run.proofs.laws.a_request_without_faults_is_served.Goals as goal

pub returns : goal.returns
returns c = its_reply c.next_request_is_one.ensures one_state one_answer
