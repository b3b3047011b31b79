use Rattle.hub_run.proofs.CompleteLemmas.{its_turn}
use Rattle.hub_run.proofs.laws.a_request_gets_its_turn.Goals as goal

pub returns : goal.returns
returns c = its_turn c.next_request_is_one.ensures
