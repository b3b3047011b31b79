-- Lists of keys in order: two with the same keys are one.
use Rattle.std.proofs.Common.{◌≡◌, ℕ, Bool, true, false, not, cond, ◌||◌, ◌&&◌, List, [], ◌∷◌, ◌++◌, Result, Ok, Err, is_ok, length, slice_index_or, ◌+◌, inl, inr, sym, ap, ◌∙◌, refl, subst, arith}
use Rattle.std.specs.declared.cmp.Ordering.{Ordering}
use Rattle.std.specs.declared.cmp.Ordering.TheVariants.{Less, Equal, Greater}
use Rattle.std.specs.Ordering.{is_eq, is_lt, eq_by_cmp, ordering_reverse}
use Rattle.std.specs.Cmp.{IsTotalOrder, tied_itself, tied_back}
use Rattle.std.specs.FinMap.{IsAntisymmetric}
use Rattle.std.specs.List.{AllByRecursion, filter, list_any, dedup, dedup_from}
use Rattle.std.specs.List.Sorted.{IsStrictlySortedBy, IsSorted, IsPermutation, IsSearchInRange, IsBinarySearchResult}
use Rattle.std.proofs.lemmas.List.Kept.{IsStrictlySortedBy-dedup, IsStrictlySortedBy-filter}
use Rattle.std.proofs.lemmas.List.Sorted.{list_any-IsPermutation, searchable_from_sorted}
use Rattle.std.proofs.lemmas.List.Folds.{list_any-append, list_any_at, list_any_none}
use Rattle.std.proofs.lemmas.Map.Keys.{Less-from_sorted}
use Rattle.std.proofs.lemmas.Bool.{cases_lt}
use Rattle.keyed_rows.specs.Sorted.{is_among, placed, with_key, with_keys, without_keys, in_order, rises_from, IsInOrder}
use Rattle.keyed_rows.proofs.Finite.{tied, or_again, or_over, clash}

both_true : (a b : Bool) → (a && b) ≡ true → (a ≡ true) × (b ≡ true)
both_true true b h = (refl, h)
both_true false b h = cc

less : (r : Ordering) → is_lt r ≡ true → r ≡ Less
less Less h = refl
less Equal h = cc
less Greater h = cc

or_swap : (a b : Bool) → (a || b) ≡ (b || a)
or_swap true true = refl
or_swap true false = refl
or_swap false true = refl
or_swap false false = refl

or_none : (a : Bool) → (a || false) ≡ a
or_none true = refl
or_none false = refl

or_grouped : (a b c : Bool) → (a || (b || c)) ≡ ((a || b) || c)
or_grouped true b c = refl
or_grouped false b c = refl

tail_same : (b s t : Bool) → (b ≡ true → s ≡ false) → (b ≡ true → t ≡ false) → (b || s) ≡ (b || t) → s ≡ t
tail_same true s t f g h = f refl ∙ sym (g refl)
tail_same false s t f g h = h

-- a list whose keys rise tests as one in order
pub rises : {K : Type 0} (R : K → K → Ordering) (k : K) (ks : List K) → IsStrictlySortedBy R (k ∷ ks) → rises_from R k ks ≡ true
unfolding IsStrictlySortedBy
rises R k [] s = refl
rises R k (m ∷ ms) s = ap (λ r. is_lt r && rises_from R m ms) s.0.0 ∙ rises R m ms s.1

pub is_ordered : {K : Type 0} (R : K → K → Ordering) (ks : List K) → IsStrictlySortedBy R ks → IsInOrder R ks
is_ordered R [] s = refl
is_ordered R (k ∷ ks) s = rises R k ks s

module _ {K : Type 0} {R : K → K → Ordering} (o : IsTotalOrder R) where
  all_below : (k m : K) → R k m ≡ Less → (ks : List K) → AllByRecursion (λ y. R m y ≡ Less) ks → AllByRecursion (λ y. R k y ≡ Less) ks
  all_below k m e [] h = tt
  all_below k m e (y ∷ ys) h = (o.trans k m y e h.0, all_below k m e ys h.1)

  pub rising : (k : K) (ks : List K) → rises_from R k ks ≡ true → IsStrictlySortedBy R (k ∷ ks)
  unfolding IsStrictlySortedBy
  rising k [] h = (tt, tt)
  rising k (m ∷ ms) h =
      let both = both_true (is_lt (R k m)) (rises_from R m ms) h in
      let rest = rising m ms both.1 in
      let first = less (R k m) both.0 in
      ((first, all_below k m first ms rest.0), rest)

  pub in_order_sorted : (ks : List K) → IsInOrder R ks → IsStrictlySortedBy R ks
  unfolding IsStrictlySortedBy
  in_order_sorted [] h = tt
  in_order_sorted (k ∷ ks) h = rising k ks h

  turned : (k m : K) → R k m ≡ Greater → R m k ≡ Less
  turned k m e = o.antisymm m k ∙ ap ordering_reverse e

  -- a key below all of a list isn't in it
  not_below : (k : K) (ks : List K) → AllByRecursion (λ y. R k y ≡ Less) ks → is_among R k ks ≡ false
  not_below k [] h = refl
  not_below k (y ∷ ys) h = ap (λ r. is_eq r || is_among R k ys) h.0 ∙ not_below k ys h.1

  own : (k : K) (ks : List K) → is_among R k (k ∷ ks) ≡ true
  own k ks = ap (λ r. is_eq r || is_among R k ks) (tied_itself o k)

  below_with : (m k : K) (ks : List K) → R m k ≡ Less → AllByRecursion (λ y. R m y ≡ Less) ks → AllByRecursion (λ y. R m y ≡ Less) (with_key R k ks)
  below_with m k [] e h = (e, tt)
  below_with m k (y ∷ ys) e h = elim (R k y) as (λ r. AllByRecursion (λ z. R m z ≡ Less) (placed r k y ys (with_key R k ys))) [
    | Less ↦ (e, h)
    | Equal ↦ h
    | Greater ↦ (h.0, below_with m k ys e h.1)
  ]

  pub sorted_with : (k : K) (ks : List K) → IsStrictlySortedBy R ks → IsStrictlySortedBy R (with_key R k ks)
  unfolding IsStrictlySortedBy
  sorted_with k [] s = (tt, tt)
  sorted_with k (m ∷ ms) s = elim (R k m) as (λ r. R k m ≡ r → IsStrictlySortedBy R (placed r k m ms (with_key R k ms))) [
    | Less ↦ λ e. ((e, all_below k m e ms s.0), s)
    | Equal ↦ λ e. s
    | Greater ↦ λ e. (below_with m k ms (turned k m e) s.0, sorted_with k ms s.1)
  ] refl

  pub sorted_with_keys : (ks ms : List K) → IsStrictlySortedBy R ms → IsStrictlySortedBy R (with_keys R ks ms)
  sorted_with_keys [] ms s = s
  sorted_with_keys (k ∷ ks) ms s = sorted_with k (with_keys R ks ms) (sorted_with_keys ks ms s)

pub no_keys : {K : Type 0} (R : K → K → Ordering) → IsStrictlySortedBy R []
unfolding IsStrictlySortedBy
no_keys R = tt

module _ {K : Type 0} {R : K → K → Ordering} (o : IsTotalOrder R) (exact : IsAntisymmetric R) where
  same_tails : (x : K) (xs ys : List K) → AllByRecursion (λ y. R x y ≡ Less) xs → AllByRecursion (λ y. R x y ≡ Less) ys
      → ((q : K) → is_among R q (x ∷ xs) ≡ is_among R q (x ∷ ys)) → (q : K) → is_among R q xs ≡ is_among R q ys
  same_tails x xs ys s t h q = tail_same (eq_by_cmp R q x) (is_among R q xs) (is_among R q ys)
      (λ e. ap (λ k. is_among R k xs) (exact q x (tied (R q x) e)) ∙ not_below o x xs s)
      (λ e. ap (λ k. is_among R k ys) (exact q x (tied (R q x) e)) ∙ not_below o x ys t) (h q)

  pub same_keys : (xs ys : List K) → IsStrictlySortedBy R xs → IsStrictlySortedBy R ys → ((q : K) → is_among R q xs ≡ is_among R q ys) → xs ≡ ys
  unfolding IsStrictlySortedBy
  same_keys [] [] s t h = refl
  same_keys [] (y ∷ ys) s t h = absurd (clash true refl (sym (own o y ys) ∙ sym (h y)))
  same_keys (x ∷ xs) [] s t h = absurd (clash true refl (sym (own o x xs) ∙ h x))
  same_keys (x ∷ xs) (y ∷ ys) s t h = elim (R x y) as (λ r. R x y ≡ r → x ∷ xs ≡ y ∷ ys) [
    | Less ↦ λ e. absurd (clash true refl (sym (own o x xs) ∙ h x ∙ not_below o x (y ∷ ys) (e, all_below o x y e ys t.0)))
    | Equal ↦ λ e.
        let same = exact x y e in
        let rest = same_keys xs ys s.1 t.1 (same_tails x xs ys s.0 (subst (λ k. AllByRecursion (λ z. R k z ≡ Less) ys) (sym same) t.0) (λ q. h q ∙ ap (λ k. is_among R q (k ∷ ys)) (sym same))) in
        ap (λ k. k ∷ xs) same ∙ ap (λ ks. y ∷ ks) rest
    | Greater ↦ λ e. absurd (clash true refl (sym (own o y ys) ∙ sym (h y) ∙ not_below o y (x ∷ xs) (turned o x y e, all_below o y x (turned o x y e) xs s.0)))
  ] refl

  pub among_with : (q k : K) (ks : List K) → is_among R q (with_key R k ks) ≡ (eq_by_cmp R q k || is_among R q ks)
  among_with q k [] = refl
  among_with q k (m ∷ ms) = elim (R k m) as (λ r. R k m ≡ r → is_among R q (placed r k m ms (with_key R k ms)) ≡ (eq_by_cmp R q k || is_among R q (m ∷ ms))) [
    | Less ↦ λ e. refl
    | Equal ↦ λ e. or_again (eq_by_cmp R q m) (is_among R q ms) ∙ ap (λ x. eq_by_cmp R q x || is_among R q (m ∷ ms)) (sym (exact k m e))
    | Greater ↦ λ e. ap (λ b. eq_by_cmp R q m || b) (among_with q k ms) ∙ or_over (eq_by_cmp R q m) (eq_by_cmp R q k) (is_among R q ms)
  ] refl

  pub among_with_keys : (q : K) (ks ms : List K) → is_among R q (with_keys R ks ms) ≡ (is_among R q ks || is_among R q ms)
  among_with_keys q [] ms = refl
  among_with_keys q (k ∷ ks) ms =
      among_with q k (with_keys R ks ms) ∙ ap (λ b. eq_by_cmp R q k || b) (among_with_keys q ks ms) ∙ or_grouped (eq_by_cmp R q k) (is_among R q ks) (is_among R q ms)

  pub among_in_order : (q : K) (ks : List K) → is_among R q (in_order R ks) ≡ is_among R q ks
  among_in_order q ks = among_with_keys q ks [] ∙ or_none (is_among R q ks)

  pub sorted_in_order : (ks : List K) → IsStrictlySortedBy R (in_order R ks)
  sorted_in_order ks = sorted_with_keys o ks [] (no_keys R)

  -- what a union gives
  pub united : (ks more : List K) → IsStrictlySortedBy R ks → in_order R (ks ++ more) ≡ with_keys R more ks
  united ks more s = same_keys _ _ (sorted_in_order (ks ++ more)) (sorted_with_keys o more ks s) (λ q.
      among_in_order q (ks ++ more) ∙ list_any-append (eq_by_cmp R q) ks more ∙ or_swap (is_among R q ks) (is_among R q more) ∙ sym (among_with_keys q more ks))

  -- a list less the keys of another, or of the same in order
  pub less_in_order : (gone ks : List K) → without_keys R (in_order R gone) ks ≡ without_keys R gone ks
  less_in_order gone ks = ap (λ p. filter p ks) (λ i m. not (among_in_order m gone i))

  pub without_sorted : (gone ks : List K) → IsStrictlySortedBy R ks → IsStrictlySortedBy R (without_keys R gone ks)
  without_sorted gone ks s = IsStrictlySortedBy-filter R (λ m. not (is_among R m gone)) ks s

-- ---- what a sort and a `dedup` leave

module _ {X : Type 0} (E : X → X → Bool) (same : (x y : X) → E x y ≡ true → x ≡ y) (p : X → Bool) where
  any_dedup_from : (k : X) (xs : List X) → list_any p (dedup_from E k xs) ≡ (p k || list_any p xs)
  any_dedup_from k [] = refl
  any_dedup_from k (x ∷ xs) = elim (E x k) as (λ b. E x k ≡ b → list_any p (cond b (dedup_from E k xs) (k ∷ dedup_from E x xs)) ≡ (p k || (p x || list_any p xs))) [
    | true ↦ λ e. any_dedup_from k xs ∙ or_again (p k) (list_any p xs) ∙ ap (λ y. p k || (p y || list_any p xs)) (sym (same x k e))
    | false ↦ λ e. ap (λ b. p k || b) (any_dedup_from x xs)
  ] refl

  any_dedup : (xs : List X) → list_any p (dedup E xs) ≡ list_any p xs
  any_dedup [] = refl
  any_dedup (x ∷ xs) = any_dedup_from x xs

module _ {K : Type 0} {R : K → K → Ordering} (o : IsTotalOrder R) (exact : IsAntisymmetric R) {E : K → K → Bool} (ties : (x y : K) → E x y ≡ eq_by_cmp R x y) where
  pub sorted_dedup : (xs : List K) → IsSorted R xs → IsStrictlySortedBy R (dedup E xs)
  sorted_dedup xs s = IsStrictlySortedBy-dedup o ties xs s

  pub put_in_order : (ks xs : List K) → IsPermutation ks xs → IsSorted R xs → dedup E xs ≡ in_order R ks
  put_in_order ks xs moved s = same_keys o exact _ _ (sorted_dedup xs s) (sorted_in_order o exact ks) (λ q.
      any_dedup E (λ x y e. exact x y (tied (R x y) (sym (ties x y) ∙ e))) (eq_by_cmp R q) xs ∙ sym (list_any-IsPermutation (eq_by_cmp R q) ks xs moved) ∙ sym (among_in_order o exact q ks))

-- ---- a binary search

module _ {K : Type 0} {R : K → K → Ordering} (o : IsTotalOrder R) where
  not_falling : (xs : List K) → IsStrictlySortedBy R xs → IsSorted R xs
  not_falling xs s k d low high = ap is_lt (o.antisymm (slice_index_or xs (k + 1) d) (slice_index_or xs k d) ∙ ap ordering_reverse (Less-from_sorted R xs k (k + 1) d s (omega arith) high))

  apart_below : (x y : K) → R y x ≡ Less → eq_by_cmp R x y ≡ false
  apart_below x y e = ap is_eq (o.antisymm x y ∙ ap ordering_reverse e)

  apart_above : (x y : K) → R y x ≡ Greater → eq_by_cmp R x y ≡ false
  apart_above x y e = ap is_eq (o.antisymm x y ∙ ap ordering_reverse e)

  pub found : (x : K) (xs : List K) (r : Result ℕ ℕ) → IsStrictlySortedBy R xs → IsSearchInRange r (length xs) → IsBinarySearchResult (λ y. R y x) xs r → is_ok r ≡ is_among R x xs
  found x xs (Ok i) s bound at = sym (list_any_at (eq_by_cmp R x) xs i x bound (ap is_eq (tied_back o (slice_index_or xs i x) x (at x))))
  found x xs (Err i) s bound gap =
      let parts = gap (searchable_from_sorted o (λ k. k) xs x (not_falling xs s)) in
      sym (list_any_none (eq_by_cmp R x) xs (λ k d inside. elim (cases_lt k i) as (λ _. eq_by_cmp R x (slice_index_or xs k d) ≡ false) [
        | inl below ↦ apart_below x (slice_index_or xs k d) (parts.0 k d (omega arith) below)
        | inr above ↦ apart_above x (slice_index_or xs k d) (parts.1 k d (omega arith) inside)
      ]))
