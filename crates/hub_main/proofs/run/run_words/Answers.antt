use Rattle.hub_main.proofs.Commands.{wanting_ends}
use Rattle.hub_main.proofs.run.run_words.Goals as goal

pub returns-in-Err-Memory-clause-ends : goal.returns-in-Err-Memory-clause-ends
returns-in-Err-Memory-clause-ends g c = wanting_ends _ _ _ _ _ _ _ _
