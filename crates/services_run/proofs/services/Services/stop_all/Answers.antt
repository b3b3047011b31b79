use Rattle.std.proofs.Common.{rules, ◌≡◌, List, ◌++◌, length, take, drop, sym, subst}
use Rattle.std.proofs.lemmas.List.{take_at}
use Rattle.services_run.specs.declared.place.Place.{Place}
use Rattle.services_run.specs.Rules.{halting}
use Rattle.services_run.specs.Rounds.{Rounded}
use Rattle.services_run.specs.Book.{Book, IsBook}
use Rattle.services_run.proofs.HaltLemmas.{book_stays}
use Rattle.services_run.proofs.services.Services.stop_all.Goals as goal

pub invariant_of-self : goal.invariant_of-self
invariant_of-self g c =
    let new = c.halt_all-round.new.places in
    let back : take c.self.inside.places.len (new ++ drop (length new) c.self.inside.places.items) ≡ new =
    take_at new (drop (length new) c.self.inside.places.items) c.self.inside.places.len (search rules) in
    subst (λ (ps : List Place). IsBook (record { places = ps; last = c.halt_all-round.result.last })) (sym back)
    (book_stays halting c.as_mut_slice.result.now new c.self.inside.last c.halt_all-round.result.last _ _ _ _ _ _ c.halt_all-round.ensures.rounded
    (subst (λ (ps : List Place). IsBook (record { places = ps; last = c.self.inside.last })) (sym c.as_mut_slice.ensures.value) c.self.invariant))

pub returns-clause-rounded : goal.returns-clause-rounded
returns-clause-rounded g c =
    let new = c.halt_all-round.new.places in
    let back : take c.self.inside.places.len (new ++ drop (length new) c.self.inside.places.items) ≡ new =
    take_at new (drop (length new) c.self.inside.places.items) c.self.inside.places.len (search rules) in (
      c.halt_all-round.result.tally,
      subst (λ (b : Book). Rounded halting b.places b.last (g.R.Running.calls c.args.running.now) (g.P.Paths.calls c.args.paths.now) (length b.places)
          (take c.self.inside.places.len (new ++ drop (length new) c.self.inside.places.items)) c.halt_all-round.result.last c.halt_all-round.result.tally
          (g.R.Running.calls c.halt_all-round.new.running) (g.P.Paths.calls c.halt_all-round.new.paths)) c.self.view_is
          (subst (λ (ps : List Place). Rounded halting c.self.inside.places.items c.self.inside.last (g.R.Running.calls c.args.running.now)
          (g.P.Paths.calls c.args.paths.now) (length c.self.inside.places.items)
          ps c.halt_all-round.result.last c.halt_all-round.result.tally
          (g.R.Running.calls c.halt_all-round.new.running) (g.P.Paths.calls c.halt_all-round.new.paths)) (sym back)
          (subst (λ (ps : List Place). Rounded halting ps c.self.inside.last (g.R.Running.calls c.args.running.now) (g.P.Paths.calls c.args.paths.now) (length ps)
          new c.halt_all-round.result.last c.halt_all-round.result.tally
          (g.R.Running.calls c.halt_all-round.new.running) (g.P.Paths.calls c.halt_all-round.new.paths)) c.as_mut_slice.ensures.value c.halt_all-round.ensures.rounded)),
    )
