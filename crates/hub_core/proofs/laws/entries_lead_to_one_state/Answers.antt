use Rattle.hub_core.proofs.Places.{one_state}
use Rattle.hub_core.proofs.laws.entries_lead_to_one_state.Goals as goal

pub returns : goal.returns
returns c = one_state
