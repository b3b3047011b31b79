use Rattle.hub_core.proofs.Places.{at_opening}
use Rattle.hub_core.proofs.laws.no_entries_lead_to_the_opening.Goals as goal

pub returns : goal.returns
returns c = at_opening
