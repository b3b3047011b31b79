-- Which generations run after one is put in or taken out.
use Rattle.std.proofs.Common.{◌≡◌, ℕ, ◌==◌, Bool, true, false, not, ◌&&◌, ◌||◌, List, [], ◌∷◌, ◌++◌, filter, Some, refl, sym, ap, ◌∙◌, if◌then◌else◌}
use Rattle.std.proofs.lemmas.Bool.{eqb-true, eq-eqb}
use Rattle.std.proofs.lemmas.List.Folds.{list_any-append}
use Rattle.std.proofs.lemmas.Map.Views.{any-filter_same}
use Rattle.hub_devices.specs.Running.{runs, Sets}
use Rattle.hub_devices.proofs.StreamLemmas.{some_same}

same_tests : (a b : Bool) → (a ≡ true → b ≡ true) → (b ≡ true → a ≡ true) → a ≡ b
same_tests true b f g = sym (f refl)
same_tests false true f g = g refl
same_tests false false f g = refl

eq_turned : (g h : ℕ) → (g == h) ≡ (h == g)
eq_turned g h =
    same_tests (g == h) (h == g) (λ e. eq-eqb h g (sym (eqb-true g h e))) (λ e. eq-eqb g h (sym (eqb-true h g e)))

and_if : (b c : Bool) → (not b && c) ≡ (if b then false else c)
and_if true c = refl
and_if false c = refl

or_if : (b c : Bool) → (c || (b || false)) ≡ (if b then true else c)
or_if true true = refl
or_if true false = refl
or_if false true = refl
or_if false false = refl

if_twice : (b c : Bool) → (if b then false else (if b then true else c)) ≡ (if b then false else c)
if_twice true c = refl
if_twice false c = refl

runs_without : (old : List ℕ) (g h : ℕ) → runs (filter (λ n. not (n == g)) old) h ≡ (if h == g then false else runs old h)
runs_without old g h =
    any-filter_same (λ n. n == h) (λ n. not (n == g)) (not (h == g)) (λ n e. ap (λ m. not (m == g)) (eqb-true n h e)) old
    ∙ and_if (h == g) (runs old h)

runs_with : (old : List ℕ) (g h : ℕ) → runs (old ++ g ∷ []) h ≡ (if h == g then true else runs old h)
runs_with old g h =
    list_any-append (λ n. n == h) old (g ∷ [])
    ∙ (ap (λ b. runs old h || (b || false)) (eq_turned g h) ∙ or_if (h == g) (runs old h))

-- a generation was put in
pub Sets_on : (old new : List ℕ) (g : ℕ) → new ≡ old ++ g ∷ [] → Sets (Some old) g true (Some new)
Sets_on old new g is = record {
  sets = λ of told. (
    new,
    refl,
    λ h. ap (λ l. runs l h) is
        ∙ (runs_with old g h ∙ ap (λ l. if h == g then true else runs l h) (some_same old of told)),
  );
}

-- a generation was taken out
pub Sets_off : (old new : List ℕ) (g : ℕ) → new ≡ filter (λ n. not (n == g)) old → Sets (Some old) g false (Some new)
Sets_off old new g is = record {
  sets = λ of told. (
    new,
    refl,
    λ h. ap (λ l. runs l h) is
        ∙ (runs_without old g h ∙ ap (λ l. if h == g then false else runs l h) (some_same old of told)),
  );
}

-- a generation was put in and taken out again
pub Sets_undone : (old with new : List ℕ) (g : ℕ) → with ≡ old ++ g ∷ [] → new ≡ filter (λ n. not (n == g)) with
    → Sets (Some old) g false (Some new)
Sets_undone old with new g on off = record {
  sets = λ of told. (
    new,
    refl,
    λ h. ap (λ l. runs l h) (off ∙ ap (filter (λ n. not (n == g))) on)
        ∙ (runs_without (old ++ g ∷ []) g h
        ∙ (ap (λ b. if h == g then false else b) (runs_with old g h)
        ∙ (if_twice (h == g) (runs old h) ∙ ap (λ l. if h == g then false else runs l h) (some_same old of told)))),
  );
}
