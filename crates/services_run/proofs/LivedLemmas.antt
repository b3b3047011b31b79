-- Rounds one after another.
use Rattle.std.proofs.Common.{◌≡◌, ℕ, List, [], ◌∷◌, ◌++◌, Option, Some, None, slice_get, refl, sym, ap, ◌∙◌, subst, append_assoc}
use Rattle.std.proofs.lemmas.List.{append-nil}
use Rattle.hub_devices.specs.Calls.{Grows}
use Rattle.services_run.specs.Calls.{RunCall, PathCall}
use Rattle.services_run.specs.declared.place.Place.{Place}
use Rattle.services_run.specs.declared.place.Tended.{Tended}
use Rattle.services_run.specs.Rules.{turn_of, runs_of, paths_of}
use Rattle.services_run.specs.Rounds.{World, Move, counted, move_by, move_at, move, moves_from, run, fresh, nothing_counted}
use Rattle.services_run.specs.Law.{nobody, may_run, OnePerService, StartsAlone, NumbersRise, AllOwn, AllHeld, labels, IsLawful, Lived, RoundsFollow, ToldAreLawful}
use Rattle.hub_devices.proofs.CallLemmas.{Grows_none, Grows_then}
use Rattle.services_run.proofs.RoundLemmas.{run_more}
use Rattle.services_run.proofs.LawLemmas.{some_same, lawful}

-- with calls made before, and other counts
abbrev lift : List RunCall → List PathCall → Tended → World → World
lift xs ys n w = record { places = w.places; last = w.last; tally = n; runs = xs ++ w.runs; paths = ys ++ w.paths }

lift_at : (xs : List RunCall) (ys : List PathCall) (n : Tended) (w : World) (m : Move) (o : Option Place)
    → (k : Tended) × (move_at (lift xs ys n w) m o ≡ lift xs ys k (move_at w m o))
lift_at xs ys n w m None = (n, refl)
lift_at xs ys n w m (Some p) =
    let t = turn_of m.rule m.answers w.last p in
    let rs = runs_of m.rule m.answers w.last p in
    let qs = paths_of m.rule m.answers w.last p in
    let whole = move_by w m.at p t rs qs in (
      counted n t.outcome,
      ap (λ (calls : List RunCall). record { places = whole.places; last = t.last; tally = counted n t.outcome; runs = calls; paths = (ys ++ w.paths) ++ qs })
          (append_assoc xs w.runs rs)
          ∙ ap (λ (calls : List PathCall). record { places = whole.places; last = t.last; tally = counted n t.outcome; runs = xs ++ (w.runs ++ rs); paths = calls })
          (append_assoc ys w.paths qs),
    )

lift_run : (xs : List RunCall) (ys : List PathCall) (n : Tended) (w : World) (ms : List Move)
    → (k : Tended) × (run (lift xs ys n w) ms ≡ lift xs ys k (run w ms))
lift_run xs ys n w [] = (n, refl)
lift_run xs ys n w (m ∷ ms) =
    let a = lift_at xs ys n w m (slice_get w.places m.at) in
    let b = lift_run xs ys a.0 (move w m) ms in
    (b.0, ap (λ (v : World). run v ms) a.1 ∙ b.1)

abbrev world : List Place → ℕ → Tended → List RunCall → List PathCall → World
world places last tally runs paths = record { places = places; last = last; tally = tally; runs = runs; paths = paths }

pub follow : RoundsFollow
follow old mid new last last' last'' n r r' r'' q q' q'' rule tally so next =
    let ms = moves_from 0 rule next.answers in
    let lifted : world mid last' so.tally so.runs so.paths ≡ lift so.runs so.paths so.tally (fresh mid last') =
    ap (λ (calls : List RunCall). world mid last' so.tally calls so.paths) (sym (append-nil so.runs))
    ∙ ap (λ (calls : List PathCall). world mid last' so.tally (so.runs ++ []) calls) (sym (append-nil so.paths)) in
    let rest = lift_run so.runs so.paths so.tally (fresh mid last') ms in record {
      moves = so.moves ++ ms;
      tally = rest.0;
      runs = so.runs ++ next.runs;
      paths = so.paths ++ next.paths;
      is = run_more (fresh old last) so.moves ms
          ∙ (ap (λ (w : World). run w ms) (so.is ∙ lifted) ∙ (rest.1 ∙ ap (lift so.runs so.paths rest.0) next.is));
      told_runs = Grows_then r r' r'' so.runs next.runs so.told_runs next.told_runs;
      told_paths = Grows_then q q' q'' so.paths next.paths so.told_paths next.told_paths;
    }

pub starts_lived : (places : List Place) (last : ℕ) (r : Option (List RunCall)) (q : Option (List PathCall)) → Lived places last r q places last r q
starts_lived places last r q = record {
  moves = [];
  tally = nothing_counted;
  runs = [];
  paths = [];
  is = refl;
  told_runs = Grows_none r;
  told_paths = Grows_none q;
}

-- what is told is all that was asked, where nothing was told before
all_told : {A : Type 0} (calls told : List A) (after : Option (List A)) → Grows (Some []) calls after → after ≡ Some told → calls ≡ told
all_told {A} calls told after grows is =
    let g = grows.adds told is in
    let none : [] ≡ g.0 = some_same [] g.0 g.1 in
    sym (g.2 ∙ ap (λ (earlier : List A). earlier ++ calls) (sym none))

pub told : ToldAreLawful
told old new last last' r' q' distinct paths so =
    let l : IsLawful (labels old) last (world new last' so.tally so.runs so.paths) =
    subst (λ (w : World). IsLawful (labels old) last w) so.is (lawful old last so.moves distinct paths) in (
      l.same,
      λ runs is.
          let same : so.runs ≡ runs = all_told so.runs runs r' so.told_runs is in (
            subst (λ (calls : List RunCall). OnePerService (may_run calls)) same l.one,
            subst (λ (calls : List RunCall). StartsAlone nobody calls) same l.alone,
            subst (λ (calls : List RunCall). NumbersRise last calls) same l.rise,
            subst (λ (calls : List RunCall). AllHeld new (may_run calls)) same l.held,
          ),
      λ calls is. subst (λ (all : List PathCall). AllOwn (labels old) all) (all_told so.paths calls q' so.told_paths is) l.own,
    )
