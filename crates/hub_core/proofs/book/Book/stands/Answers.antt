use Rattle.std.proofs.Common.{subst}
use Rattle.hub_core.specs.Visits.{IsReached}
use Rattle.hub_core.proofs.book.Book.stands.Goals as goal

pub returns : goal.returns
returns g c = subst IsReached c.self.view_is c.self.invariant.0
