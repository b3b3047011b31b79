use Rattle.std.proofs.Common.{refl}
use Rattle.world_law.proofs.TieLemmas.{life_is}
use Rattle.world_law.proofs.ties.changes_are_steps.Goals as goal

pub returns-clause-rows : goal.returns-clause-rows
returns-clause-rows c = λ s rows. refl

pub returns-clause-begins : goal.returns-clause-begins
returns-clause-begins c = λ s server rows. refl

pub returns-clause-lives : goal.returns-clause-lives
returns-clause-lives c = life_is
