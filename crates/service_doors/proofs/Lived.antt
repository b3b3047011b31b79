-- Rounds as visits that follow one another.
use Rattle.std.proofs.Common.{ℕ, zero, suc, List, [], length, Option, Some, sym, subst}
use Rattle.services_run.specs.Book.{Book, IsBook}
use Rattle.services_run.specs.Calls.{PathCall, RunCall}
use Rattle.services_run.specs.Law.{AllOwn, Lived, NumbersRise, labels}
use Rattle.services_run.specs.Rules.{halting, tending}
use Rattle.services_run.specs.declared.place.Place.{Place}
use Rattle.services_run.proofs.LivedLemmas.{follow, starts_lived, told}
use Rattle.services_run.proofs.NewLemmas.{book_new}
use Rattle.service_doors.specs.Tending.{Rounds, ServicesTold}
use Rattle.service_doors.specs.Law.{AttendedAreLawful}

abbrev LivedBy : Book → ServicesTold → Book → ServicesTold → Type 0
LivedBy b s b' s' = Lived b.places b.last s.runs s.routes b'.places b'.last s'.runs s'.routes

lived : (n : ℕ) (b b' : Book) (s s' : ServicesTold) → Rounds n b s b' s' → LivedBy b s b' s'
lived zero b b' s s' rounds =
    subst (λ (c : Book). LivedBy b s c s') (sym rounds.0)
    (subst (λ (t : ServicesTold). LivedBy b s b t) (sym rounds.1) (starts_lived b.places b.last s.runs s.routes))
lived (suc n) b b' s s' (mid, t, rounds, one) =
    follow b.places mid.places b'.places b.last mid.last b'.last (length mid.places) s.runs t.runs s'.runs s.routes t.routes s'.routes
    (tending one.now) one.tally (lived n b mid s t rounds) one.rounded

pub attended : AttendedAreLawful
attended managed s s' given given' few never runs_none routes_none a =
    let b = a.begun in
    let e = a.ended in
    let book : IsBook (record { places = b.places; last = 0 }) = book_new managed b.places few never a.placed.0 in
    let tended : LivedBy b s a.tended a.told = lived (suc a.tends.connections) b a.tended s a.told a.tends.rounds in
    let whole : LivedBy b s e s' =
    follow b.places a.tended.places e.places b.last a.tended.last e.last (length a.tended.places) s.runs a.told.runs s'.runs s.routes a.told.routes s'.routes
    halting a.halts.tally tended a.halts.rounded in
    let fresh : Lived b.places b.last (Some []) (Some []) e.places e.last s'.runs s'.routes =
    subst (λ (r : Option (List RunCall)). Lived b.places b.last r (Some []) e.places e.last s'.runs s'.routes) runs_none
    (subst (λ (q : Option (List PathCall)). Lived b.places b.last s.runs q e.places e.last s'.runs s'.routes) routes_none whole) in
    let law = told b.places e.places b.last e.last s'.runs s'.routes book.distinct book.paths fresh in (
      λ runs is.
          let of_runs = law.1 runs is in
          (of_runs.0, of_runs.1, subst (λ (n : ℕ). NumbersRise n runs) a.placed.1 of_runs.2, of_runs.3),
      λ paths is. subst (λ (ps : List Place). AllOwn (labels ps) paths) a.placed.0 (law.2 paths is),
    )
