-- A key among keys that pass a test, and among several lists.
use Rattle.std.proofs.Common.{◌≡◌, Bool, true, false, ◌&&◌, ◌||◌, cond, List, [], ◌∷◌, ◌++◌, refl, sym, ap, ◌∙◌}
use Rattle.std.specs.declared.cmp.Ordering.{Ordering}
use Rattle.std.specs.Ordering.{eq_by_cmp}
use Rattle.std.specs.FinMap.{IsAntisymmetric}
use Rattle.std.specs.List.{filter, flat_map, list_any}
use Rattle.std.proofs.lemmas.List.Folds.{list_any-append}
use Rattle.keyed_rows.specs.Sorted.{is_among}
use Rattle.keyed_rows.proofs.Finite.{tied}

module _ {K : Type 0} {R : K → K → Ordering} (exact : IsAntisymmetric R) where
  pub among_filter : (p : K → Bool) (q : K) (ks : List K) → is_among R q (filter p ks) ≡ (p q && is_among R q ks)
  among_filter p q [] = and_false (p q)
    where
      and_false : (a : Bool) → false ≡ (a && false)
      and_false true = refl
      and_false false = refl
  among_filter p q (k ∷ ks) = elim (p k) as (λ b. p k ≡ b → is_among R q (cond b (k ∷ filter p ks) (filter p ks)) ≡ (p q && (eq_by_cmp R q k || is_among R q ks))) [
    | true ↦ λ h. ap (λ b. eq_by_cmp R q k || b) (among_filter p q ks) ∙ here (eq_by_cmp R q k) (p q) (is_among R q ks) (λ t. ap p (exact q k (tied (R q k) t)) ∙ h)
    | false ↦ λ h. among_filter p q ks ∙ gone (eq_by_cmp R q k) (p q) (is_among R q ks) (λ t. ap p (exact q k (tied (R q k) t)) ∙ h)
  ] refl
    where
      here : (e a r : Bool) → (e ≡ true → a ≡ true) → (e || (a && r)) ≡ (a && (e || r))
      here true a r h = ap (λ b. b && true) (sym (h refl)) ∙ refl
      here false a r h = refl

      gone : (e a r : Bool) → (e ≡ true → a ≡ false) → (a && r) ≡ (a && (e || r))
      gone true a r h = ap (λ b. b && r) (h refl) ∙ ap (λ b. b && true) (sym (h refl))
      gone false a r h = refl

pub none_of : {A : Type 0} (xs : List A) → list_any (λ x. false) xs ≡ false
none_of [] = refl
none_of (x ∷ xs) = none_of xs

among_each : {A K : Type 0} (R : K → K → Ordering) (f : A → List K) (q : K) (xs : List A) → is_among R q (flat_map f xs) ≡ list_any (λ x. is_among R q (f x)) xs
among_each R f q [] = refl
among_each R f q (x ∷ xs) = list_any-append (eq_by_cmp R q) (f x) (flat_map f xs) ∙ ap (λ b. is_among R q (f x) || b) (among_each R f q xs)

-- a key is among a list and what each of some gives where it is in the list or in what one of them gives
pub among_both : {A K : Type 0} (R : K → K → Ordering) (first : List K) (f : A → List K) (q : K) (xs : List A)
    → is_among R q (first ++ flat_map f xs) ≡ (is_among R q first || list_any (λ x. is_among R q (f x)) xs)
among_both R first f q xs = list_any-append (eq_by_cmp R q) first (flat_map f xs) ∙ ap (λ b. is_among R q first || b) (among_each R f q xs)
