use Rattle.hub_core.proofs.Places.{visited_appends}
use Rattle.hub_core.proofs.ask.AskJobBook.act.Goals as goal

pub returns-clause-appends : goal.returns-clause-appends
returns-clause-appends g c = visited_appends _ _ _ _ _ _ _ _ _ c.visit.ensures.placed
