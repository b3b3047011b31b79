use Rattle.hub_run.proofs.CompleteLemmas.{no_calls}
use Rattle.hub_run.proofs.laws.only_work_makes_calls.Goals as goal

pub returns : goal.returns
returns c = no_calls
