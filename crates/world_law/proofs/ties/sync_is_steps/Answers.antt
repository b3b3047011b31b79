use Rattle.world_law.proofs.SyncLemmas.{addition_is, deletion_is}
use Rattle.world_law.proofs.ties.sync_is_steps.Goals as goal

pub returns-clause-additions : goal.returns-clause-additions
returns-clause-additions c = addition_is

pub returns-clause-deletions : goal.returns-clause-deletions
returns-clause-deletions c = deletion_is
