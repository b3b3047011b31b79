-- Of the keys of the rows that pass one test, those whose rows pass a narrower one.
use Rattle.std.proofs.Common.{◌≡◌, ℕ, ◌+◌, ◌<◌, Bool, true, false, ◌&&◌, ◌||◌, cond, List, [], ◌∷◌, ◌++◌, append_assoc, length, drop, get_or, Option, Some, None, map, refl, sym, ap, ◌∙◌}
use Rattle.std.proofs.lemmas.List.{at_drop_more}
use Rattle.std.specs.declared.cmp.Ordering.{Ordering}
use Rattle.std.specs.Ordering.{eq_by_cmp}
use Rattle.std.specs.Cmp.{IsTotalOrder}
use Rattle.std.specs.FinMap.{FinMap, IsAntisymmetric, values, get}
use Rattle.std.specs.List.{filter}
use Rattle.std.proofs.lemmas.List.Kept.{IsStrictlySortedBy-filter}
use Rattle.keyed_rows.specs.Rows.{OwnKeys, is_kept_and}
use Rattle.keyed_rows.specs.Sorted.{is_among}
use Rattle.keyed_rows.proofs.Finite.{tied}
use Rattle.keyed_rows.proofs.InOrder.{found_rise, found_among}
use Rattle.keyed_rows.proofs.KeyLists.{same_keys}

and_none : (b : Bool) → false ≡ (b && false)
and_none true = refl
and_none false = refl

-- one key more, which is picked or passed over
more_picked : (e b a : Bool) → (e ≡ true → b ≡ true) → (e || (b && a)) ≡ (b && (e || a))
more_picked true b a h = sym (ap (λ c. c && true) (h refl))
more_picked false b a h = refl

more_passed : (e b a : Bool) → (e ≡ true → b ≡ false) → (b && a) ≡ (b && (e || a))
more_passed true b a h = ap (λ c. c && a) (h refl) ∙ sym (ap (λ c. c && true) (h refl))
more_passed false b a h = refl

narrower : {X : Type 0} (p q : X → Bool) → ((x : X) → p x ≡ true → q x ≡ true) → (o : Option X) → (is_kept_and p o && is_kept_and q o) ≡ is_kept_and p o
narrower p q h None = refl
narrower p q h (Some x) = both (p x) (q x) (h x)
  where
    both : (b c : Bool) → (b ≡ true → c ≡ true) → (b && c) ≡ b
    both true c k = k refl
    both false c k = refl

module _ {K : Type 0} {R : K → K → Ordering} (exact : IsAntisymmetric R) where
  among_picked : (f : K → Bool) (k : K) (ks : List K) → is_among R k (filter f ks) ≡ (f k && is_among R k ks)
  among_picked f k [] = and_none (f k)
  among_picked f k (m ∷ ms) = elim (f m) as (λ b. f m ≡ b → is_among R k (cond b (m ∷ filter f ms) (filter f ms)) ≡ (f k && (eq_by_cmp R k m || is_among R k ms))) [
    | true ↦ λ e. ap (λ b. eq_by_cmp R k m || b) (among_picked f k ms) ∙ more_picked (eq_by_cmp R k m) (f k) (is_among R k ms) (λ t. ap f (exact k m (tied (R k m) t)) ∙ e)
    | false ↦ λ e. among_picked f k ms ∙ more_passed (eq_by_cmp R k m) (f k) (is_among R k ms) (λ t. ap f (exact k m (tied (R k m) t)) ∙ e)
  ] refl

  module _ {X : Type 0} (total : IsTotalOrder R) (key : X → K) (p q : X → Bool) (h : (x : X) → p x ≡ true → q x ≡ true) (m : FinMap R X) (own : OwnKeys key m) where
    pub found_among_found : filter (λ k. is_kept_and p (get m k)) (map key (filter q (values m))) ≡ map key (filter p (values m))
    found_among_found =
        same_keys total exact _ _
        (IsStrictlySortedBy-filter R (λ k. is_kept_and p (get m k)) (map key (filter q (values m))) (found_rise total exact key q m own))
        (found_rise total exact key p m own)
        (λ k. among_picked (λ k. is_kept_and p (get m k)) k (map key (filter q (values m)))
        ∙ ap (λ b. is_kept_and p (get m k) && b) (found_among total exact key q m own k)
        ∙ narrower p q h (get m k) ∙ sym (found_among total exact key p m own k))

-- a walk over a list that keeps what passes a test
module _ {X : Type 0} (f : X → Bool) (xs : List X) (i : ℕ) (d : X) (inside : i < length xs) (kept all : List X) (so_far : kept ++ filter f (drop i xs) ≡ all) where
  abbrev rest : List X
  rest = filter f (drop (i + 1) xs)

  one_more : (b : Bool) → f (get_or xs i d) ≡ b → kept ++ cond b (get_or xs i d ∷ rest) rest ≡ all
  one_more b h = ap (λ c. kept ++ cond c (get_or xs i d ∷ rest) rest) (sym h) ∙ ap (λ ys. kept ++ ys) (sym (at_drop_more (filter f) xs i d inside)) ∙ so_far

  pub passed_by : f (get_or xs i d) ≡ false → kept ++ rest ≡ all
  passed_by h = one_more false h

  pub kept_too : f (get_or xs i d) ≡ true → (kept ++ get_or xs i d ∷ []) ++ rest ≡ all
  kept_too h = append_assoc kept (get_or xs i d ∷ []) rest ∙ one_more true h
