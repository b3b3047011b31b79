use Rattle.hub_run.proofs.RemovedLemmas.{turned_away}
use Rattle.hub_run.proofs.laws.a_removed_token_is_turned_away.Goals as goal

pub returns : goal.returns
returns c = turned_away c.next_request_is_one.ensures
