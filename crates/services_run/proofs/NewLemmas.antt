-- What stood before.
use Rattle.std.proofs.Common.{◌≡◌, ◌<◌, ◌^◌, ◌⊎◌, inl, inr, ℕ, zero, suc, ◌+◌, Bool, true, false, nat_eq, nat_lt, List, [], ◌∷◌, length, Some, get_or, slice_get, map, refl, sym, ap, ◌∙◌, subst, arith}
use Rattle.std.proofs.lemmas.Bool.Decides.{nat_tests}
use Rattle.std.proofs.lemmas.List.{length-map}
use Rattle.services_run.specs.declared.place.Managed.{Managed}
use Rattle.services_run.specs.declared.place.Place.{Place}
use Rattle.services_run.specs.New.{Clashes, ClashAt, IsRepeated, placed, ArePlaced}
use Rattle.services_run.specs.Law.{Label, label, labels, service_path, HasDistinctNames, HasPaths}
use Rattle.services_run.specs.Book.{IsBook}
use Rattle.services_run.proofs.LawLemmas.{some_same}

below_by : (P : ℕ → Type 0) (n i : ℕ) (b : Bool) → nat_eq i n ≡ b → ((j : ℕ) → j < n → ¬ (P j)) → ¬ (P n) → i < n + 1 → ¬ (P i)
below_by P n i true e none here within x = here (subst P (grind (arith, nat_tests)) x)
below_by P n i false e none here within x = none i (grind (arith, nat_tests)) x

pub below_more : (P : ℕ → Type 0) (n : ℕ) → ((j : ℕ) → j < n → ¬ (P j)) → ¬ (P n) → (i : ℕ) → i < n + 1 → ¬ (P i)
below_more P n none here i within x = below_by P n i (nat_eq i n) refl none here within x

pub read_there : (xs : List Managed) (i : ℕ) (d : Managed) → i < length xs → slice_get xs i ≡ Some (get_or xs i d)
read_there [] i d within = absurd (omega (arith, within))
read_there (x ∷ xs) zero d within = refl
read_there (x ∷ xs) (suc i) d within = read_there xs i d (omega (arith, within))

pub read_within : (xs : List Managed) (i : ℕ) (x : Managed) → slice_get xs i ≡ Some x → i < length xs
read_within [] i x h = cc
read_within (y ∷ xs) zero x h = omega arith
read_within (y ∷ xs) (suc i) x h = (let r = read_within xs i x h in omega (arith, r))

pub clash_is : (ms : List Managed) (j i : ℕ) (d e : Managed) → j < length ms → i < length ms → ClashAt ms j i → Clashes (get_or ms j d) (get_or ms i e)
clash_is ms j i d e at_j at_i x =
    let a : x.0 ≡ get_or ms j d = some_same x.0 (get_or ms j d) (sym x.2 ∙ read_there ms j d at_j) in
    let b : x.1 ≡ get_or ms i e = some_same x.1 (get_or ms i e) (sym x.3 ∙ read_there ms i e at_i) in
    subst (λ (k : Managed). Clashes k (get_or ms i e)) a (subst (λ (k : Managed). Clashes x.0 k) b x.4)

pub clash_at : (ms : List Managed) (j i : ℕ) (d e : Managed) → j < length ms → i < length ms → Clashes (get_or ms j d) (get_or ms i e) → ClashAt ms j i
clash_at ms j i d e at_j at_i x = (get_or ms j d, get_or ms i e, read_there ms j d at_j, read_there ms i e at_i, x)

read_label : (ms : List Managed) (i : ℕ) (l : Label) → slice_get (labels (map placed ms)) i ≡ Some l
    → (m : Managed) × (slice_get ms i ≡ Some m) × (l ≡ label (placed m))
read_label [] i l h = cc
read_label (m ∷ ms) zero l h = (m, refl, sym (some_same (label (placed m)) l h))
read_label (m ∷ ms) (suc i) l h = read_label ms i l h

order : (i j : ℕ) (b c : Bool) → nat_lt i j ≡ b → nat_lt j i ≡ c → (i < j) ⊎ ((j < i) ⊎ (i ≡ j))
order i j true c e f = inl (grind (arith, nat_tests))
order i j false true e f = inr (inl (grind (arith, nat_tests)))
order i j false false e f = inr (inr (grind (arith, nat_tests)))

distinct_new : (ms : List Managed) → ((i : ℕ) → ¬ (IsRepeated ms i)) → HasDistinctNames (labels (map placed ms))
distinct_new ms never i j k l hk hl names =
    let a = read_label ms i k hk in
    let b = read_label ms j l hl in
    let same : a.0.name ≡ b.0.name =
    ap (λ (x : Label). x.managed.name) (sym a.2) ∙ (names ∙ ap (λ (x : Label). x.managed.name) b.2) in
    elim (order i j (nat_lt i j) (nat_lt j i) refl refl) [
      | inl less ↦ absurd (never j (i, less, (a.0, b.0, a.1, b.1, inl same)))
      | inr more ↦ elim more [
        | inl less ↦ absurd (never i (j, less, (b.0, a.0, b.1, a.1, inl (sym same))))
        | inr is ↦ is
      ]
    ]

paths_new : (ms : List Managed) → HasPaths (labels (map placed ms))
paths_new ms i l h =
    let a = read_label ms i l h in
    ap (λ (x : Label). x.path) a.2 ∙ ap (λ (x : Label). service_path x.managed.name) (sym a.2)

pub book_new : (ms : List Managed) (ps : List Place) → length ms < 2 ^ 32 → ((i : ℕ) → ¬ (IsRepeated ms i)) → ArePlaced ms ps
    → IsBook (record { places = ps; last = 0 })
book_new ms ps few never is = subst (λ (qs : List Place). IsBook (record { places = qs; last = 0 })) (sym is) (record {
  few = subst (λ (n : ℕ). n < 2 ^ 32) (sym (length-map ms placed)) few;
  distinct = distinct_new ms never;
  paths = paths_new ms;
})

pub not_both : (b : Bool) → b ≡ true → b ≡ false → ⊥
not_both b t f = cc

pub clash_same : (a b x y : Managed) → x ≡ a → y ≡ b → Clashes a b → Clashes x y
clash_same a b x y p q h = subst (λ (k : Managed). Clashes k y) (sym p) (subst (λ (k : Managed). Clashes a k) (sym q) h)
