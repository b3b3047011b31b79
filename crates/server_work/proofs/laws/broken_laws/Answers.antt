use Rattle.server_work.proofs.Waiting.{broken_by_other, waits_after}
use Rattle.server_work.proofs.laws.broken_laws.Goals as goal

pub returns-clause-broken : goal.returns-clause-broken
returns-clause-broken c = broken_by_other

pub returns-clause-waits : goal.returns-clause-waits
returns-clause-waits c = waits_after
