use Rattle.hub_core.proofs.Removals.{removed_refused}
use Rattle.hub_core.proofs.laws.a_removed_token_stays_refused.Goals as goal

pub returns : goal.returns
returns c = removed_refused
