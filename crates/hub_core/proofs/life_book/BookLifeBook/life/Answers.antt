use Rattle.std.proofs.Common.{sym, subst}
use Rattle.std.specs.Prelude.{Ok, Err}
use Rattle.server_work.specs.LifeVisits.{LifeVisited}
use Rattle.server_work.specs.declared.book.Lived.{Lived}
use Rattle.hub_core.specs.LifeBook.{Notes, lives_of}
use Rattle.hub_core.specs.Visits.{entries_of}
use Rattle.hub_core.proofs.Booking.{visited}
use Rattle.hub_core.proofs.life_book.BookLifeBook.life.Goals as goal

pub returns-in-Ok-clause-visited : goal.returns-in-Ok-clause-visited
returns-in-Ok-clause-visited g c = λ owed.
    subst (λ (l : Lived). LifeVisited Notes (entries_of c.args.self.now) (entries_of c.life-came.new.self) (lives_of c.args.self.now.hub.lives) (lives_of c.life-came.new.self.hub.lives)
    c.args.self.now.faults c.life-came.new.self.faults c.args.generation c.args.outcome (Ok l)) (sym c.lived.ensures)
    (visited c.args.self.now c.life-came.new.self c.args.generation c.args.outcome (Ok c.in-Ok.step) c.in-Ok.ensures.lives c.in-Ok.ensures.placed)

pub returns-in-Err-clause-visited : goal.returns-in-Err-clause-visited
returns-in-Err-clause-visited g c = λ owed.
    visited c.args.self.now c.life-came.new.self c.args.generation c.args.outcome (Err c.in-Err.refusal) c.in-Err.ensures.lives c.in-Err.ensures.placed
