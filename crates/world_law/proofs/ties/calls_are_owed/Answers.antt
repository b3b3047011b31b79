use Rattle.world_law.proofs.TieLemmas.{asked_is}
use Rattle.world_law.proofs.ties.calls_are_owed.Goals as goal

pub returns : goal.returns
returns c = asked_is
