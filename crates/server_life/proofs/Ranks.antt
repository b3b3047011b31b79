-- Where a key belongs in a list of entries whose keys rise, and what an edit there leaves.
use Rattle.std.proofs.Common.{ℕ, suc, zero, ◌≡◌, ◌<◌, ◌≤◌, Bool, true, false, cond, not, ◌&&◌, T, List, [], ◌∷◌, length, get_or, Option, Some, None, IsSome, refl, ap, sym, ◌∙◌, subst, arith}
use Rattle.std.specs.List.{insert, remove}
use Rattle.std.specs.List.Sorted.{IsPartitionedBy, IsPartitionPoint}
use Rattle.std.specs.declared.cmp.Ordering.{Ordering}
use Rattle.std.specs.declared.cmp.Ordering.TheVariants.{Less, Equal, Greater}
use Rattle.std.specs.Ordering.{is_lt, is_eq, eq_by_cmp, ordering_reverse}
use Rattle.std.specs.Cmp.{IsTotalOrder}
use Rattle.std.specs.FinMap.Entries.{find, put, where_key, is_sorted, below_all, by_order}
use Rattle.server_life.specs.Ranks.{rank}

first : (a b : Bool) → T (a && b) → T a
first true b p = tt
first false b p = p

second : (a b : Bool) → T (a && b) → T b
second true b p = p
second false b p = absurd p

pub both : (a b : Bool) → T a → T b → T (a && b)
both true b p q = q
both false b p q = p

some_none : {A : Type 0} (x : A) → Some x ≡ None → ⊥
some_none x h = cc

none_is_not : {A : Type 0} (o : Option A) → o ≡ None → IsSome o → ⊥
none_is_not None e h = cc
none_is_not (Some x) e h = some_none x e

less : (o : Ordering) → T (is_lt o) → o ≡ Less
less Less p = refl
less Equal p = absurd p
less Greater p = absurd p

module _ {K X : Type 0} (R : K → K → Ordering) where
  below_at : (x : K) (es : List (K × X)) (j : ℕ) (d : K × X) → T (below_all R x es) → j < length es → R x (get_or es j d).0 ≡ Less
  below_at x [] j d b h = absurd (omega arith)
  below_at x (e ∷ es) zero d b h = less _ (first _ _ b)
  below_at x (e ∷ es) (suc j) d b h = below_at x es j d (second _ _ b) (omega arith)

  module _ (o : IsTotalOrder R) where
    -- no key that is below q comes after one that isn't
    pub parted : (q : K) (es : List (K × X)) → T (is_sorted R es) → IsPartitionedBy (λ (e : K × X). is_lt (R e.0 q)) es
    parted q [] s i j d le h p = absurd (omega arith)
    parted q (e ∷ es) s zero zero d le h p = p
    parted q (e ∷ es) s zero (suc j) d le h p =
        ap is_lt (o.trans e.0 (get_or es j d).0 q (below_at e.0 es j d (first _ _ s) (omega arith)) (less _ (subst T (sym p) tt)))
    parted q (e ∷ es) s (suc i) zero d le h p = absurd (omega arith)
    parted q (e ∷ es) s (suc i) (suc j) d le h p = parted q es (second _ _ s) i j d (omega arith) (omega arith) p

    -- a key below all others isn't found
    pub missed : (q : K) (es : List (K × X)) → T (below_all R q es) → find R q es ≡ None
    missed q [] b = refl
    missed q (e ∷ es) b = ap (λ r. cond (is_eq r) (Some e.1) (find R q es)) (less _ (first _ _ b)) ∙ missed q es (second _ _ b)

    kept : (q : K) (es : List (K × X)) → T (below_all R q es) → where_key R (λ k. not (eq_by_cmp R q k)) es ≡ es
    kept q [] b = refl
    kept q (e ∷ es) b =
        ap (λ r. cond (not (is_eq r)) (e ∷ where_key R (λ k. not (eq_by_cmp R q k)) es) (where_key R (λ k. not (eq_by_cmp R q k)) es)) (less _ (first _ _ b)) ∙ ap (λ l. e ∷ l) (kept q es (second _ _ b))

    pub below_less : (x y : K) (es : List (K × X)) → R x y ≡ Less → T (below_all R y es) → T (below_all R x es)
    below_less x y [] p b = tt
    below_less x y (e ∷ es) p b = both _ _ (subst (λ r. T (is_lt r)) (sym (o.trans x y e.0 p (less _ (first _ _ b)))) tt) (below_less x y es p (second _ _ b))

    below_tied : (x y : K) (es : List (K × X)) → R x y ≡ Equal → T (below_all R y es) → T (below_all R x es)
    below_tied x y [] p b = tt
    below_tied x y (e ∷ es) p b = both _ _ (subst (λ r. T (is_lt r)) (sym (o.congr x y e.0 p)) (first _ _ b)) (below_tied x y es p (second _ _ b))

    -- what is found at a place
    abbrev pub found_at : K → List (K × X) → ℕ → Option X
    found_at q [] i = None
    found_at q (e ∷ es) zero = cond (eq_by_cmp R q e.0) (Some e.1) None
    found_at q (e ∷ es) (suc i) = found_at q es i

    pub find-rank : (q : K) (es : List (K × X)) → T (is_sorted R es) → find R q es ≡ found_at q es (rank R q es)
    find-rank q [] s = refl
    find-rank q (e ∷ es) s =
        subst (λ t. cond (is_eq (R q e.0)) (Some e.1) (find R q es) ≡ found_at q (e ∷ es) (cond (is_lt t) (suc (rank R q es)) 0)) (sym (o.antisymm e.0 q))
        (elim (R q e.0) as (λ r. R q e.0 ≡ r → cond (is_eq r) (Some e.1) (find R q es) ≡ found_at q (e ∷ es) (cond (is_lt (ordering_reverse r)) (suc (rank R q es)) 0)) [
          | Less ↦ λ p. missed q es (below_less q e.0 es p (first _ _ s)) ∙ sym (ap (λ r. cond (is_eq r) (Some e.1) None) p)
          | Equal ↦ λ p. sym (ap (λ r. cond (is_eq r) (Some e.1) None) p)
          | Greater ↦ λ p. find-rank q es (second _ _ s)
        ] refl)

    pub put-rank : (k : K) (v : X) (es : List (K × X)) → find R k es ≡ None → put R k v es ≡ insert es (rank R k es) (k, v)
    put-rank k v [] n = refl
    put-rank k v (e ∷ es) n =
        subst (λ t. put R k v (e ∷ es) ≡ insert (e ∷ es) (cond (is_lt t) (suc (rank R k es)) 0) (k, v)) (sym (o.antisymm e.0 k))
        (elim (R k e.0) as (λ r. cond (is_eq r) (Some e.1) (find R k es) ≡ None → by_order r ((k, v) ∷ e ∷ es) ((e.0, v) ∷ es) (e ∷ put R k v es) ≡ insert (e ∷ es) (cond (is_lt (ordering_reverse r)) (suc (rank R k es)) 0) (k, v)) [
          | Less ↦ λ n. refl
          | Equal ↦ λ n. absurd (some_none e.1 n)
          | Greater ↦ λ n. ap (λ (l : List (K × X)). e ∷ l) (put-rank k v es n)
        ] n)

    pub where_key-rank : (q : K) (es : List (K × X)) → T (is_sorted R es) → IsSome (find R q es) → where_key R (λ k. not (eq_by_cmp R q k)) es ≡ remove es (rank R q es)
    where_key-rank q [] s h = refl
    where_key-rank q (e ∷ es) s h =
        let rest : List (K × X) = where_key R (λ k. not (eq_by_cmp R q k)) es in
        subst (λ t. cond (not (is_eq (R q e.0))) (e ∷ rest) rest ≡ remove (e ∷ es) (cond (is_lt t) (suc (rank R q es)) 0)) (sym (o.antisymm e.0 q))
        (elim (R q e.0) as (λ r. R q e.0 ≡ r → IsSome (cond (is_eq r) (Some e.1) (find R q es)) → cond (not (is_eq r)) (e ∷ rest) rest ≡ remove (e ∷ es) (cond (is_lt (ordering_reverse r)) (suc (rank R q es)) 0)) [
          | Less ↦ λ p h. absurd (none_is_not (find R q es) (missed q es (below_less q e.0 es p (first _ _ s))) h)
          | Equal ↦ λ p h. kept q es (below_tied q e.0 es p (first _ _ s))
          | Greater ↦ λ p h. ap (λ (l : List (K × X)). e ∷ l) (where_key-rank q es (second _ _ s) h)
        ] refl h)

    pub found_within : (q : K) (es : List (K × X)) (i : ℕ) → IsSome (found_at q es i) → i < length es
    found_within q [] i h = cc
    found_within q (e ∷ es) zero h = omega arith
    found_within q (e ∷ es) (suc i) h = let n = found_within q es i h in omega (arith, n)

    pub found_is : (q : K) (es : List (K × X)) (i : ℕ) (d : K × X) → i < length es → found_at q es i ≡ cond (eq_by_cmp R q (get_or es i d).0) (Some (get_or es i d).1) None
    found_is q [] i d h = absurd (omega arith)
    found_is q (e ∷ es) zero d h = refl
    found_is q (e ∷ es) (suc i) d h = found_is q es i d (omega arith)

    pub found_past : (q : K) (es : List (K × X)) (i : ℕ) → length es ≤ i → found_at q es i ≡ None
    found_past q [] i h = refl
    found_past q (e ∷ es) zero h = absurd (omega arith)
    found_past q (e ∷ es) (suc i) h = found_past q es i (omega arith)

    pub rank_le : (q : K) (es : List (K × X)) → rank R q es ≤ length es
    rank_le q [] = omega arith
    rank_le q (e ∷ es) = let n = rank_le q es in elim (is_lt (R e.0 q)) as (λ b. cond b (suc (rank R q es)) 0 ≤ suc (length es)) [ true ↦ omega (arith, n) | false ↦ omega arith ]

    pub rank_is : (q : K) (es : List (K × X)) (i : ℕ) → i ≤ length es → IsPartitionPoint (λ (e : K × X). is_lt (R e.0 q) ≡ true) (λ (e : K × X). is_lt (R e.0 q) ≡ false) es i → i ≡ rank R q es
    rank_is q [] i h p = omega arith
    rank_is q (e ∷ es) zero h p = sym (ap (λ b. cond b (suc (rank R q es)) 0) (p.1 zero e (omega arith) (omega arith)))
    rank_is q (e ∷ es) (suc i) h p =
        ap suc (rank_is q es i (omega arith) ((λ k d l m. p.0 (suc k) d (omega arith) (omega arith)), λ k d l m. p.1 (suc k) d (omega arith) (omega arith)))
        ∙ sym (ap (λ b. cond b (suc (rank R q es)) 0) (p.0 zero e (omega arith) (omega arith)))

    pub rank_lt : (q : K) (es : List (K × X)) → T (is_sorted R es) → IsSome (find R q es) → rank R q es < length es
    rank_lt q es s h = found_within q es (rank R q es) (subst IsSome (find-rank q es s) h)

    pub got : (q : K) (es : List (K × X)) (i : ℕ) (d : K × X) → T (is_sorted R es) → i ≡ rank R q es → i < length es → cond (eq_by_cmp R q (get_or es i d).0) (Some (get_or es i d).1) None ≡ find R q es
    got q es i d s e h = sym (found_is q es i d h) ∙ (ap (found_at q es) e ∙ sym (find-rank q es s))

    pub got_none : (q : K) (es : List (K × X)) (i : ℕ) → T (is_sorted R es) → i ≡ rank R q es → length es ≤ i → None ≡ find R q es
    got_none q es i s e h = sym (found_past q es i h) ∙ (ap (found_at q es) e ∙ sym (find-rank q es s))
