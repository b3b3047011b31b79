-- A round, visit by visit.
use Rattle.std.proofs.Common.{◌≡◌, ◌<◌, ℕ, zero, suc, ◌+◌, List, [], ◌∷◌, ◌++◌, length, Option, Some, get_or, slice_get, slice_set, refl, sym, ap, ◌∙◌, subst, arith, length-append}
use Rattle.services_run.specs.Calls.{RunCall, PathCall}
use Rattle.services_run.specs.declared.place.Place.{Place}
use Rattle.services_run.specs.declared.place.Turn.{Turn}
use Rattle.services_run.specs.declared.place.Tended.{Tended}
use Rattle.services_run.specs.Rules.{Answers, Rule, runs_of, paths_of, Visited}
use Rattle.services_run.specs.Rounds.{World, Move, put_turn, counted, move_by, move_at, move, run, moves_from, nothing_counted, fresh, Rounded}
use Rattle.hub_devices.proofs.CallLemmas.{Grows_none, Grows_then}

pub run_more : (w : World) (ms ns : List Move) → run w (ms ++ ns) ≡ run (run w ms) ns
run_more w [] ns = refl
run_more w (m ∷ ms) ns = run_more (move w m) ms ns

moves_more : (at : ℕ) (rule : Rule) (more : List Answers) (a : Answers)
    → moves_from at rule (more ++ a ∷ []) ≡ moves_from at rule more ++ record { at = at + length more; rule = rule; answers = a } ∷ []
moves_more at rule [] a = ap (λ (n : ℕ). record { at = n; rule = rule; answers = a } ∷ []) (omega arith)
moves_more at rule (b ∷ more) a =
    ap (λ (ms : List Move). record { at = at; rule = rule; answers = b } ∷ ms)
    (moves_more (at + 1) rule more a
    ∙ ap (λ (n : ℕ). moves_from (at + 1) rule more ++ record { at = n; rule = rule; answers = a } ∷ []) (omega arith))

pub Rounded_none : (rule : Rule) (old : List Place) (last : ℕ) (r : Option (List RunCall)) (q : Option (List PathCall))
    → Rounded rule old last r q 0 old last nothing_counted r q
Rounded_none rule old last r q = record {
  answers = [];
  each = refl;
  runs = [];
  paths = [];
  is = refl;
  told_runs = Grows_none r;
  told_paths = Grows_none q;
}

abbrev world : List Place → ℕ → Tended → List RunCall → List PathCall → World
world places last tally runs paths = record { places = places; last = last; tally = tally; runs = runs; paths = paths }

abbrev visit_to : ℕ → Rule → Answers → Move
visit_to at rule a = record { at = at; rule = rule; answers = a }

pub Rounded_more : (rule : Rule) (old : List Place) (last : ℕ) (r r' r'' : Option (List RunCall)) (q q' q'' : Option (List PathCall)) (n : ℕ)
    (new : List Place) (last' : ℕ) (tally : Tended) (p : Place) (t : Turn)
    → Rounded rule old last r q n new last' tally r' q' → slice_get new n ≡ Some p → Visited rule last' p t r' r'' q' q''
    → Rounded rule old last r q (n + 1) (slice_set new n (put_turn p t)) t.last (counted tally t.outcome) r'' q''
Rounded_more rule old last r r' r'' q q' q'' n new last' tally p t so here v =
    let before = world new last' tally so.runs so.paths in
    let runs = runs_of rule v.answers last' p in
    let paths = paths_of rule v.answers last' p in
    let cut : run (fresh old last) (moves_from 0 rule (so.answers ++ v.answers ∷ []))
    ≡ move (run (fresh old last) (moves_from 0 rule so.answers)) (visit_to (length so.answers) rule v.answers) =
    ap (run (fresh old last))
    (moves_more 0 rule so.answers v.answers
    ∙ ap (λ (k : ℕ). moves_from 0 rule so.answers ++ visit_to k rule v.answers ∷ []) (omega arith))
    ∙ run_more (fresh old last) (moves_from 0 rule so.answers) (visit_to (length so.answers) rule v.answers ∷ []) in
    let moved : move (run (fresh old last) (moves_from 0 rule so.answers)) (visit_to (length so.answers) rule v.answers)
    ≡ move before (visit_to n rule v.answers) =
    ap (λ (w : World). move w (visit_to (length so.answers) rule v.answers)) so.is
    ∙ ap (λ (k : ℕ). move before (visit_to k rule v.answers)) so.each in
    let made : move before (visit_to n rule v.answers) ≡ move_by before n p t runs paths =
    ap (move_at before (visit_to n rule v.answers)) here
    ∙ ap (λ (u : Turn). move_by before n p u runs paths) (sym v.turn_is) in record {
      answers = so.answers ++ v.answers ∷ [];
      each = length-append so.answers (v.answers ∷ []) ∙ ap (λ (k : ℕ). k + 1) so.each;
      runs = so.runs ++ runs;
      paths = so.paths ++ paths;
      is = cut ∙ (moved ∙ made);
      told_runs = Grows_then r r' r'' so.runs runs so.told_runs v.runs;
      told_paths = Grows_then q q' q'' so.paths paths so.told_paths v.paths;
    }

-- the same round in other words
pub Rounded_as : (rule : Rule) (old : List Place) (last : ℕ) (r r' : Option (List RunCall)) (q q' : Option (List PathCall)) (n : ℕ)
    (new new' : List Place) (last' : ℕ) (tally tally' : Tended) → new ≡ new' → tally ≡ tally'
    → Rounded rule old last r q n new last' tally r' q' → Rounded rule old last r q n new' last' tally' r' q'
Rounded_as rule old last r r' q q' n new new' last' tally tally' same_places same_tally so =
    subst (λ (t : Tended). Rounded rule old last r q n new' last' t r' q') same_tally
    (subst (λ (places : List Place). Rounded rule old last r q n places last' tally r' q') same_places so)

pub get_there : (xs : List Place) (i : ℕ) (d : Place) → i < length xs → slice_get xs i ≡ Some (get_or xs i d)
get_there [] i d within = absurd (omega (arith, within))
get_there (x ∷ xs) zero d within = refl
get_there (x ∷ xs) (suc i) d within = get_there xs i d (omega (arith, within))
