use Rattle.std.proofs.Common.{rules, ◌≡◌, List, ◌++◌, length, take, drop, sym, subst}
use Rattle.std.proofs.lemmas.List.{take_at}
use Rattle.services_run.specs.declared.place.Place.{Place}
use Rattle.services_run.specs.Rules.{tending}
use Rattle.services_run.specs.Book.{IsBook}
use Rattle.services_run.proofs.HaltLemmas.{book_stays}
use Rattle.services_run.proofs.services.Services.tend.Goals as goal

pub invariant_of-self : goal.invariant_of-self
invariant_of-self g c =
    let new = c.tend_all-round.new.places in
    let back : take c.self.inside.places.len (new ++ drop (length new) c.self.inside.places.items) ≡ new =
    take_at new (drop (length new) c.self.inside.places.items) c.self.inside.places.len (search rules) in
    subst (λ (ps : List Place). IsBook (record { places = ps; last = c.tend_all-round.result.last })) (sym back)
    (book_stays (tending c.args.now) c.as_mut_slice.result.now new c.self.inside.last c.tend_all-round.result.last _ _ _ _ _ _ c.tend_all-round.ensures.rounded
    (subst (λ (ps : List Place). IsBook (record { places = ps; last = c.self.inside.last })) (sym c.as_mut_slice.ensures.value) c.self.invariant))
