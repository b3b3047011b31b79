use Rattle.std.proofs.Common.{◌≡◌, ◌+◌, Ok, None, nat_eq, if◌then◌else◌, sym, subst, [], ◌∷◌}
use Rattle.std.proofs.lemmas.Grind.{replicate_next}
use Rattle.std.proofs.lemmas.List.{length-replicate}
use Rattle.server_life.specs.declared.life.LifeEvent.{LifeEvent}
use Rattle.server_work.specs.LifeSteps.{step_at, left_of}
use Rattle.hub_tests.proofs.OneLives.{takes, sets}
use Rattle.hub_tests.proofs.of_adopt.OneLifeLifeBook.life.Goals as goal

pub returns-clause-visited : goal.returns-clause-visited
returns-clause-visited c = λ owes.
    let book = c.args.self.now in
    let took = takes book.generation c.args.generation book.life c.args.outcome c.in-Ok.made c.if-generation-self.false c.in-Ok.ensures.of (sym c.in-Ok.ensures.table) in
    record {
      entry = tt;
      taken = c.in-Ok.made.0;
      made = c.in-Ok.made.0;
      appends = replicate_next book.events tt;
      notes_it = tt;
      takes = took;
      row = subst (λ (event : LifeEvent). step_at (λ k. if nat_eq k book.generation then left_of book.life else None) c.args.generation event ≡ Ok c.in-Ok.made)
          (sym c.kept_of.ensures.noted) took;
      left = sets book.generation c.args.generation (left_of c.in-Ok.made.0) (left_of book.life) c.if-generation-self.false;
      kept = c.kept_of.ensures.kept;
      longer = sym (length-replicate (book.events + 1) tt);
    }

pub returns-clause-appends : goal.returns-clause-appends
returns-clause-appends c = (tt ∷ [], sym (replicate_next c.args.self.now.events tt))
