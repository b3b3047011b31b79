use Rattle.hub_core.proofs.OneAnswer.{one_answer}
use Rattle.hub_core.proofs.Places.{one_state}
use Rattle.hub_run.proofs.CompleteLemmas.{its_answer, its_leave, its_loss, its_work}
use Rattle.hub_run.proofs.laws.a_visited_request_gets_its_answer.Goals as goal

pub returns-clause-answered : goal.returns-clause-answered
returns-clause-answered c = its_answer one_state one_answer

pub returns-clause-sent : goal.returns-clause-sent
returns-clause-sent c = its_work one_state one_answer

pub returns-clause-let_on : goal.returns-clause-let_on
returns-clause-let_on c = λ start request v asking a h due. (its_leave one_state one_answer start request v asking a h due).0

pub returns-clause-unsaid : goal.returns-clause-unsaid
returns-clause-unsaid c = λ start request v a h due. its_loss one_state one_answer start request v a h.left due
