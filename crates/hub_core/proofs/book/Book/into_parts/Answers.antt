use Rattle.std.proofs.Common.{IsTrue, subst}
use Rattle.hub_core.specs.Visits.{Standing, IsReached}
use Rattle.hub_core.proofs.book.Book.into_parts.Goals as goal

pub returns-clause-reached : goal.returns-clause-reached
returns-clause-reached g c = subst IsReached c.self.view_is c.self.invariant.0

pub returns-clause-had : goal.returns-clause-had
returns-clause-had g c = subst (λ (b : Standing). g.K.Keeper.Tells c.self.inside.keeper → IsTrue b.start.has_rows) c.self.view_is c.self.invariant.4
