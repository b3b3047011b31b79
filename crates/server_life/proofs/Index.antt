-- What a change of one lease leaves in the look-ups.
use Rattle.std.proofs.Common.{ℕ, suc, zero, ◌≡◌, ◌≢◌, ◌<◌, ◌+◌, inl, inr, Bool, true, false, cond, not, ◌&&◌, ◌==◌, nat_lt, T, List, [], ◌∷◌, length, set, Option, Some, None, refl, ap, sym, ◌∙◌, subst, arith, slice_get, get_or, is_some, IsSome, replicate, length-set, MatchOption}
use Rattle.std.proofs.lemmas.List.{length-replicate}
use Rattle.std.proofs.lemmas.Option.{slice_get-get_or, slice_get_within, get_or_from_slice_get}
use Rattle.std.specs.declared.cmp.Ordering.{Ordering}
use Rattle.std.specs.declared.cmp.Ordering.TheVariants.{Less, Equal, Greater}
use Rattle.std.specs.Ordering.{is_eq, is_lt, eq_by_cmp, nat_cmp}
use Rattle.std.specs.Cmp.{IsTotalOrder, tied_itself, nat_cmp_total, unsigned_tied, then_total, on_total}
use Rattle.std.specs.Cmp.Lexicographic.{nat_list_cmp_total}
use Rattle.std.proofs.lemmas.Bool.Decides.{nat_tests}
use Rattle.hub_kit.specs.declared.names.ServerKey.{ServerKey}
use Rattle.hub_kit.specs.KeyOrder.{key_cmp, key_exact}
use Rattle.server_life.specs.LeaseTable.{LeaseTable, IsOneToOne}
use Rattle.server_life.proofs.Ranks.{missed, below_less, both}
use Rattle.std.specs.FinMap.{IsAntisymmetric, nat_cmp-IsAntisymmetric}
use Rattle.std.specs.FinMap.Entries.{find, put, where_key, is_sorted, find-put, find-where_key, is_sorted-put, is_sorted-where_key, length-put, length_without}
use Rattle.server_life.specs.declared.leases.Held.{Held}
use Rattle.server_life.specs.declared.leases.NoTarget.{NoTarget}
use Rattle.server_life.specs.Leased.{IsFree, IsFirstFree, IsNotLive, IsUnleased, HoldsLease}
use Rattle.server_life.specs.LeaseIndex.{IsIndex, IsFreeIndex, HasOrderedLists, generation_in, server_in}
use Rattle.server_life.proofs.Places.{get_set, one_more}

tie : (r : Ordering) → is_eq r ≡ true → r ≡ Equal
tie Less h = cc
tie Equal h = refl
tie Greater h = cc

some_is : {A : Type 0} (x y : A) → Some x ≡ Some y → x ≡ y
some_is x y h = cc

none_some : {A : Type 0} (x : A) → None ≡ Some x → ⊥
none_some x h = cc

both_some : (h k : Held) → Some (Some h) ≡ Some (Some k) → h ≡ k
both_some h k e = some_is h k (some_is (Some h) (Some k) e)

set_same : {A : Type 0} (xs : List A) (i : ℕ) (v x : A) → slice_get xs i ≡ Some x → slice_get (set xs i v) i ≡ Some v
set_same [] i v x h = cc
set_same (y ∷ ys) zero v x h = refl
set_same (y ∷ ys) (suc i) v x h = set_same ys i v x h

set_other : {A : Type 0} (xs : List A) (i j : ℕ) (v : A) → (j ≢ i) → slice_get (set xs i v) j ≡ slice_get xs j
set_other [] i j v n = refl
set_other (y ∷ ys) zero zero v n = absurd (n refl)
set_other (y ∷ ys) zero (suc j) v n = refl
set_other (y ∷ ys) (suc i) zero v n = refl
set_other (y ∷ ys) (suc i) (suc j) v n = set_other ys i j v (λ e. n (ap suc e))

module _ {K : Type 0} (R : K → K → Ordering) (o : IsTotalOrder R) (same : IsAntisymmetric R) (f : Held → K) where
  abbrev At : List (Option Held) → K → Option ℕ → Type 0
  At leased q r = MatchOption r
      ((i : ℕ) (h : Held) → slice_get leased i ≡ Some (Some h) → f h ≢ q)
      (λ i. (h : Held) × (slice_get leased i ≡ Some (Some h)) × (f h ≡ q))

  apart : (q k : K) → eq_by_cmp R q k ≡ false → k ≢ q
  apart q k t e = absurd (no (eq_by_cmp R q k) t (subst (λ (x : K). eq_by_cmp R q x ≡ true) (sym e) (ap is_eq (tied_itself o q)))) where
    no : (b : Bool) → b ≡ false → b ≡ true → ⊥
    no b h k = cc

  put_other : (leased : List (Option Held)) (i : ℕ) (h : Held) (q : K) → slice_get leased i ≡ Some None → f h ≢ q → (r : Option ℕ) → At leased q r → At (set leased i (Some h)) q r
  put_other leased i h q free n None old = λ j k e. elim (get_set leased i (Some h) j (Some k) e) [
    | inl x ↦ (λ p. n (ap f (some_is h k x.1) ∙ p))
    | inr x ↦ old j k x.1
  ]
  put_other leased i h q free n (Some j) old = (old.0, set_other leased i j (Some h) (λ e. none_some old.0 (some_is None (Some old.0) (sym free ∙ (ap (slice_get leased) (sym e) ∙ old.1)))) ∙ old.1, old.2)

  pub index_put : (leased : List (Option Held)) (es : List (K × ℕ)) (i : ℕ) (h : Held) → IsIndex R f leased es → slice_get leased i ≡ Some None → IsIndex R f (set leased i (Some h)) (put R (f h) i es)
  index_put leased es i h old free q =
      subst (At (set leased i (Some h)) q) (sym (find-put R o q (f h) i es))
      (elim (eq_by_cmp R q (f h)) as (λ b. eq_by_cmp R q (f h) ≡ b → At (set leased i (Some h)) q (cond b (Some i) (find R q es))) [
        | true ↦ λ t. (h, set_same leased i (Some h) None free, sym (same q (f h) (tie (R q (f h)) t)))
        | false ↦ λ t. put_other leased i h q free (apart q (f h) t) (find R q es) (old q)
      ] refl)

  remove_other : (leased : List (Option Held)) (i : ℕ) (h : Held) (q : K) → slice_get leased i ≡ Some (Some h) → f h ≢ q → (r : Option ℕ) → At leased q r → At (set leased i None) q r
  remove_other leased i h q is n None old = λ j k e. elim (get_set leased i None j (Some k) e) [
    | inl x ↦ absurd (none_some k x.1)
    | inr x ↦ old j k x.1
  ]
  remove_other leased i h q is n (Some j) old = (old.0, set_other leased i j None (λ e. n (ap f (both_some h old.0 (sym is ∙ (ap (slice_get leased) (sym e) ∙ old.1))) ∙ old.2)) ∙ old.1, old.2)

  pub index_remove : (leased : List (Option Held)) (es : List (K × ℕ)) (i : ℕ) (h : Held) → IsIndex R f leased es → slice_get leased i ≡ Some (Some h)
      → ((j : ℕ) (k : Held) → slice_get leased j ≡ Some (Some k) → f k ≡ f h → i ≡ j) → IsIndex R f (set leased i None) (where_key R (λ k. not (eq_by_cmp R (f h) k)) es)
  index_remove leased es i h old is only q =
      subst (At (set leased i None) q) (sym (find-where_key R (λ k. not (eq_by_cmp R (f h) k)) q (λ x e. ap (λ (k : K). not (eq_by_cmp R (f h) k)) (sym (same q x e))) es))
      (elim (eq_by_cmp R (f h) q) as (λ b. eq_by_cmp R (f h) q ≡ b → At (set leased i None) q (cond (not b) (find R q es) None)) [
        | true ↦ λ t j k e. elim (get_set leased i None j (Some k) e) [
          | inl x ↦ absurd (none_some k x.1)
          | inr x ↦ (λ p. x.0 (only j k x.1 (p ∙ sym (same (f h) q (tie (R (f h) q) t)))))
        ]
        | false ↦ λ t. remove_other leased i h q is (λ e. apart (f h) q t (sym e)) (find R q es) (old q)
      ] refl)

abbrev FreeAt : List (Option Held) → ℕ → Option (Unit {0}) → Type 0
FreeAt leased i r = MatchOption r (IsFree leased i → ⊥) (λ _. IsFree leased i)

free_other : (leased : List (Option Held)) (i j : ℕ) (v : Option Held) → j ≢ i → (r : Option (Unit {0})) → FreeAt leased j r → FreeAt (set leased i v) j r
free_other leased i j v n None old = λ e. old (sym (set_other leased i j v n) ∙ e)
free_other leased i j v n (Some u) old = set_other leased i j v n ∙ old

nat_apart : (i j : ℕ) → eq_by_cmp nat_cmp i j ≡ false → i ≢ j
nat_apart i j t e = no (eq_by_cmp nat_cmp i j) t (subst (λ (x : ℕ). eq_by_cmp nat_cmp i x ≡ true) e (ap is_eq (tied_itself nat_cmp_total i))) where
  no : (b : Bool) → b ≡ false → b ≡ true → ⊥
  no b h k = cc

pub free_put : (leased : List (Option Held)) (es : List (ℕ × Unit {0})) (i : ℕ) (x : Option Held) → IsFreeIndex leased es → slice_get leased i ≡ Some x → IsFreeIndex (set leased i None) (put nat_cmp i tt es)
free_put leased es i x old within j =
    subst (FreeAt (set leased i None) j) (sym (find-put nat_cmp nat_cmp_total j i tt es))
    (elim (eq_by_cmp nat_cmp j i) as (λ b. eq_by_cmp nat_cmp j i ≡ b → FreeAt (set leased i None) j (cond b (Some tt) (find nat_cmp j es))) [
      | true ↦ λ t. subst (IsFree (set leased i None)) (sym (nat_cmp-IsAntisymmetric j i (tie (nat_cmp j i) t))) (set_same leased i None x within)
      | false ↦ λ t. free_other leased i j None (nat_apart j i t) (find nat_cmp j es) (old j)
    ] refl)

pub free_remove : (leased : List (Option Held)) (es : List (ℕ × Unit {0})) (i : ℕ) (h : Held) → IsFreeIndex leased es → slice_get leased i ≡ Some None → IsFreeIndex (set leased i (Some h)) (where_key nat_cmp (λ k. not (eq_by_cmp nat_cmp i k)) es)
free_remove leased es i h old is j =
    subst (FreeAt (set leased i (Some h)) j) (sym (find-where_key nat_cmp (λ k. not (eq_by_cmp nat_cmp i k)) j (λ x e. ap (λ (k : ℕ). not (eq_by_cmp nat_cmp i k)) (sym (nat_cmp-IsAntisymmetric j x e))) es))
    (elim (eq_by_cmp nat_cmp i j) as (λ b. eq_by_cmp nat_cmp i j ≡ b → FreeAt (set leased i (Some h)) j (cond (not b) (find nat_cmp j es) None)) [
      | true ↦ λ t e. none_some h (some_is None (Some h) (sym e ∙ (ap (slice_get (set leased i (Some h))) (sym (nat_cmp-IsAntisymmetric i j (tie (nat_cmp i j) t))) ∙ set_same leased i (Some h) None is)))
      | false ↦ λ t. free_other leased i j (Some h) (λ e. nat_apart i j t (sym e)) (find nat_cmp j es) (old j)
    ] refl)

pub key_total : IsTotalOrder key_cmp
key_total = then_total (on_total (λ (k : ServerKey). k.user) nat_list_cmp_total) (on_total (λ (k : ServerKey). k.server) nat_list_cmp_total)

-- what a look-up tells
pub at_some : {K : Type 0} (R : K → K → Ordering) (f : Held → K) (leased : List (Option Held)) (es : List (K × ℕ)) (q : K) (i : ℕ) → IsIndex R f leased es → Some i ≡ find R q es → (h : Held) × (slice_get leased i ≡ Some (Some h)) × (f h ≡ q)
at_some R f leased es q i old e =
    subst (λ (r : Option ℕ). MatchOption r ((i : ℕ) (h : Held) → slice_get leased i ≡ Some (Some h) → f h ≢ q) (λ i. (h : Held) × (slice_get leased i ≡ Some (Some h)) × (f h ≡ q))) (sym e) (old q)

pub at_none : {K : Type 0} (R : K → K → Ordering) (f : Held → K) (leased : List (Option Held)) (es : List (K × ℕ)) (q : K) → IsIndex R f leased es → None ≡ find R q es → (i : ℕ) (h : Held) → slice_get leased i ≡ Some (Some h) → f h ≢ q
at_none R f leased es q old e =
    subst (λ (r : Option ℕ). MatchOption r ((i : ℕ) (h : Held) → slice_get leased i ≡ Some (Some h) → f h ≢ q) (λ i. (h : Held) × (slice_get leased i ≡ Some (Some h)) × (f h ≡ q))) (sym e) (old q)

found_none : {K : Type 0} (R : K → K → Ordering) (f : Held → K) (leased : List (Option Held)) (es : List (K × ℕ)) (q : K) → IsIndex R f leased es
    → ((i : ℕ) (h : Held) → slice_get leased i ≡ Some (Some h) → f h ≢ q) → (r : Option ℕ) → find R q es ≡ r → r ≡ None
found_none R f leased es q old n None e = refl
found_none R f leased es q old n (Some i) e = let k = at_some R f leased es q i old (sym e) in absurd (n i k.0 k.1 k.2)

found_some : {K : Type 0} (R : K → K → Ordering) (f : Held → K) (leased : List (Option Held)) (es : List (K × ℕ)) (i : ℕ) (h : Held) → IsIndex R f leased es
    → slice_get leased i ≡ Some (Some h) → (r : Option ℕ) → find R (f h) es ≡ r → is_some r ≡ true
found_some R f leased es i h old is None e = absurd (at_none R f leased es (f h) old (sym e) i h is refl)
found_some R f leased es i h old is (Some j) e = refl

free_found : (leased : List (Option Held)) (es : List (ℕ × Unit {0})) (i : ℕ) → IsFreeIndex leased es → IsFree leased i → (r : Option (Unit {0})) → find nat_cmp i es ≡ r → is_some r ≡ true
free_found leased es i old is None e = absurd (subst (FreeAt leased i) e (old i) is)
free_found leased es i old is (Some u) e = refl

free_missed : (leased : List (Option Held)) (es : List (ℕ × Unit {0})) (i : ℕ) (h : Held) → IsFreeIndex leased es → slice_get leased i ≡ Some (Some h) → (r : Option (Unit {0})) → find nat_cmp i es ≡ r → r ≡ None
free_missed leased es i h old is None e = refl
free_missed leased es i h old is (Some u) e = absurd (none_some h (some_is None (Some h) (sym (let k : IsFree leased i = subst (FreeAt leased i) e (old i) in k) ∙ is)))

below : (k n : ℕ) → k < n → nat_cmp k n ≡ Less
below k n h = let t : nat_lt k n ≡ true = grind (arith, nat_tests) in ap (λ b. cond b Less (cond (k == n) Equal Greater)) t

pub first_free : (leased : List (Option Held)) (es : List (ℕ × Unit {0})) (d : ℕ × Unit {0}) → 0 < length es → T (is_sorted nat_cmp es) → IsFreeIndex leased es → IsFirstFree leased (get_or es 0 d).0
first_free leased [] d h s old = absurd (omega arith)
first_free leased (e ∷ es) d h s old = (
  subst (λ b. FreeAt leased e.0 (cond b (Some e.1) (find nat_cmp e.0 es))) (ap is_eq (tied_itself nat_cmp_total e.0)) (old e.0),
  λ k lt is. subst (FreeAt leased k) (missed nat_cmp nat_cmp_total k (e ∷ es)
      (both _ _ (subst (λ r. T (is_lt r)) (sym (below k e.0 lt)) tt) (below_less nat_cmp nat_cmp_total k e.0 es (below k e.0 lt) (front _ _ s)))) (old k) is,
) where
  front : (a b : Bool) → T (a && b) → T a
  front true b p = tt
  front false b p = p

pub none_free : (leased : List (Option Held)) (es : List (ℕ × Unit {0})) → length es ≡ 0 → IsFreeIndex leased es → (k : ℕ) (d : Option Held) → k < length leased → get_or leased k d ≢ None
none_free leased [] z old k d h e = old k (slice_get-get_or leased k d h ∙ ap Some e)
none_free leased (x ∷ es) z old k d h e = absurd (omega (arith, z))

abbrev pub lease : ℕ → ServerKey → Held
lease g key = record { generation = g; server = key }

pub new_generation : (t : LeaseTable) (es : List (ℕ × ℕ)) (g : ℕ) → IsIndex nat_cmp generation_in t.leased es → IsNotLive t.leased g → find nat_cmp g es ≡ None
new_generation t es g old n = found_none nat_cmp generation_in t.leased es g old (λ i h is e. n i h.server (subst (λ (x : ℕ). slice_get t.leased i ≡ Some (Some (lease x h.server))) e is)) (find nat_cmp g es) refl

pub new_server : (t : LeaseTable) (es : List (ServerKey × ℕ)) (key : ServerKey) → IsIndex key_cmp server_in t.leased es → IsUnleased t.leased key → find key_cmp key es ≡ None
new_server t es key old n = found_none key_cmp server_in t.leased es key old (λ i h is e. n i h.generation (subst (λ (x : ServerKey). slice_get t.leased i ≡ Some (Some (lease h.generation x))) e is)) (find key_cmp key es) refl

pub count_put : {K X : Type 0} (R : K → K → Ordering) (o : IsTotalOrder R) (k : K) (v : X) (es : List (K × X)) → T (is_sorted R es) → find R k es ≡ None → length (put R k v es) ≡ length es + 1
count_put R o k v es s n = length-put R o k v es s ∙ ap (λ x. cond (is_some x) (length es) (length es + 1)) n

count_out : {K X : Type 0} (R : K → K → Ordering) (o : IsTotalOrder R) (k : K) (es : List (K × X)) → T (is_sorted R es) → is_some (find R k es) ≡ true → length (where_key R (λ x. not (eq_by_cmp R k x)) es) + 1 ≡ length es
count_out R o k es s h =
    let e : 1 + length (where_key R (λ x. not (eq_by_cmp R k x)) es) ≡ length es = subst (λ b. cond b 1 0 + length (where_key R (λ x. not (eq_by_cmp R k x)) es) ≡ length es) h (length_without R o k es s) in
    omega (arith, e)

-- one more lease
pub held_index : (t : LeaseTable) (free : List (ℕ × Unit {0})) (gens : List (ℕ × ℕ)) (servers : List (ServerKey × ℕ)) (i g : ℕ) (key : ServerKey)
    → HasOrderedLists t free gens servers → IsFree t.leased i → g < t.next → IsNotLive t.leased g → IsUnleased t.leased key
    → HasOrderedLists (record { pool = t.pool; leased = set t.leased i (Some (record { generation = g; server = key })); next = t.next }) (where_key nat_cmp (λ k. not (eq_by_cmp nat_cmp i k)) free) (put nat_cmp g i gens) (put key_cmp key i servers)
held_index t free gens servers i g key x is lt n u =
    let fewer = count_out nat_cmp nat_cmp_total i free x.free_rise (free_found t.leased free i x.free_places is (find nat_cmp i free) refl) in
    let more = count_put nat_cmp nat_cmp_total g i gens x.generations_rise (new_generation t gens g x.of_generations n) in
    let others = count_put key_cmp key_total key i servers x.servers_rise (new_server t servers key x.of_servers u) in
    let a = x.all_generations in
    let b = x.all_servers in
    record {
      one = one_more t i g t.next key x.one n u lt (omega arith);
      free_rise = is_sorted-where_key nat_cmp (λ k. not (eq_by_cmp nat_cmp i k)) free x.free_rise;
      free_places = free_remove t.leased free i (lease g key) x.free_places is;
      generations_rise = is_sorted-put nat_cmp nat_cmp_total g i gens x.generations_rise;
      of_generations = index_put nat_cmp nat_cmp_total nat_cmp-IsAntisymmetric generation_in t.leased gens i (lease g key) x.of_generations is;
      servers_rise = is_sorted-put key_cmp key_total key i servers x.servers_rise;
      of_servers = index_put key_cmp key_total key_exact server_in t.leased servers i (lease g key) x.of_servers is;
      all_generations = omega (arith, fewer, more, a);
      all_servers = omega (arith, fewer, others, b);
    }

fewer_leases : (t : LeaseTable) (i : ℕ) → IsOneToOne t → IsOneToOne (record { pool = t.pool; leased = set t.leased i None; next = t.next })
fewer_leases t i o = record {
  places = length-set t.leased i None ∙ o.places;
  small = o.small;
  above = o.above;
  distinct = o.distinct;
  below = λ j h k e. o.below j h k (kept_lease t.leased i j (lease h k) e);
  generations = λ a b h k l e f. o.generations a b h k l (kept_lease t.leased i a (lease h k) e) (kept_lease t.leased i b (lease h l) f);
  servers = λ a b h d k e f. o.servers a b h d k (kept_lease t.leased i a (lease h k) e) (kept_lease t.leased i b (lease d k) f);
} where
  kept_lease : (leased : List (Option Held)) (i j : ℕ) (h : Held) → slice_get (set leased i None) j ≡ Some (Some h) → slice_get leased j ≡ Some (Some h)
  kept_lease leased i j h e = elim (get_set leased i None j (Some h) e) [ inl x ↦ absurd (none_some h x.1) | inr x ↦ x.1 ]

-- one lease less
pub freed_index : (t : LeaseTable) (free : List (ℕ × Unit {0})) (gens : List (ℕ × ℕ)) (servers : List (ServerKey × ℕ)) (i : ℕ) (h : Held)
    → HasOrderedLists t free gens servers → slice_get t.leased i ≡ Some (Some h)
    → HasOrderedLists (record { pool = t.pool; leased = set t.leased i None; next = t.next }) (put nat_cmp i tt free) (where_key nat_cmp (λ k. not (eq_by_cmp nat_cmp h.generation k)) gens) (where_key key_cmp (λ k. not (eq_by_cmp key_cmp h.server k)) servers)
freed_index t free gens servers i h x is =
    let more = count_put nat_cmp nat_cmp_total i tt free x.free_rise (free_missed t.leased free i h x.free_places is (find nat_cmp i free) refl) in
    let fewer = count_out nat_cmp nat_cmp_total h.generation gens x.generations_rise (found_some nat_cmp generation_in t.leased gens i h x.of_generations is (find nat_cmp h.generation gens) refl) in
    let others = count_out key_cmp key_total h.server servers x.servers_rise (found_some key_cmp server_in t.leased servers i h x.of_servers is (find key_cmp h.server servers) refl) in
    let a = x.all_generations in
    let b = x.all_servers in
    record {
      one = fewer_leases t i x.one;
      free_rise = is_sorted-put nat_cmp nat_cmp_total i tt free x.free_rise;
      free_places = free_put t.leased free i (Some h) x.free_places is;
      generations_rise = is_sorted-where_key nat_cmp (λ k. not (eq_by_cmp nat_cmp h.generation k)) gens x.generations_rise;
      of_generations = index_remove nat_cmp nat_cmp_total nat_cmp-IsAntisymmetric generation_in t.leased gens i h x.of_generations is
          (λ j k e p. x.one.generations i j h.generation h.server k.server is (subst (λ (y : ℕ). slice_get t.leased j ≡ Some (Some (lease y k.server))) p e));
      servers_rise = is_sorted-where_key key_cmp (λ k. not (eq_by_cmp key_cmp h.server k)) servers x.servers_rise;
      of_servers = index_remove key_cmp key_total key_exact server_in t.leased servers i h x.of_servers is
          (λ j k e p. x.one.servers i j h.generation k.generation h.server is (subst (λ (y : ServerKey). slice_get t.leased j ≡ Some (Some (lease k.generation y))) p e));
      all_generations = omega (arith, fewer, more, a);
      all_servers = omega (arith, others, more, b);
    }

-- none of n
abbrev pub none_of : ℕ → NoTarget
none_of n = record { live = n; pool = n }

-- what is read at a place that was found
pub read_lease : {K : Type 0} (R : K → K → Ordering) (f : Held → K) (leased : List (Option Held)) (es : List (K × ℕ)) (q : K) (i : ℕ) (d : Option Held) (h : Held) → IsIndex R f leased es → Some i ≡ find R q es
    → d ≡ get_or leased i d → d ≡ Some h → (slice_get leased i ≡ Some (Some h)) × (f h ≡ q)
read_lease R f leased es q i d h old e g dh =
    let k = at_some R f leased es q i old e in
    let same : h ≡ k.0 = some_is h k.0 (sym dh ∙ (g ∙ get_or_from_slice_get leased i (Some k.0) d k.1)) in
    (subst (λ (x : Held). slice_get leased i ≡ Some (Some x)) (sym same) k.1, ap f same ∙ k.2)

pub read_none : {K : Type 0} (R : K → K → Ordering) (f : Held → K) (leased : List (Option Held)) (es : List (K × ℕ)) (q : K) (i : ℕ) (d : Option Held) → IsIndex R f leased es → Some i ≡ find R q es
    → d ≡ get_or leased i d → d ≡ None → ⊥
read_none R f leased es q i d old e g dn =
    let k = at_some R f leased es q i old e in
    none_some k.0 (sym dn ∙ (g ∙ get_or_from_slice_get leased i (Some k.0) d k.1))

pub place_below : {K : Type 0} (R : K → K → Ordering) (f : Held → K) (leased : List (Option Held)) (es : List (K × ℕ)) (q : K) (i : ℕ) → IsIndex R f leased es → Some i ≡ find R q es → i < length leased
place_below R f leased es q i old e = let k = at_some R f leased es q i old e in slice_get_within leased i (Some k.0) k.1

pub not_leased : (leased : List (Option Held)) (es : List (ServerKey × ℕ)) (key : ServerKey) → IsIndex key_cmp server_in leased es → None ≡ find key_cmp key es → IsUnleased leased key
not_leased leased es key old e = λ i g h. at_none key_cmp server_in leased es key old e i (lease g key) h refl

pub not_live : (leased : List (Option Held)) (es : List (ℕ × ℕ)) (g : ℕ) → IsIndex nat_cmp generation_in leased es → None ≡ find nat_cmp g es → IsNotLive leased g
not_live leased es g old e = λ i key h. at_none nat_cmp generation_in leased es g old e i (lease g key) h refl

pub not_free : (leased : List (Option Held)) (es : List (ℕ × Unit {0})) (i : ℕ) (h : Held) → IsFreeIndex leased es → slice_get leased i ≡ Some (Some h) → find nat_cmp i es ≡ None
not_free leased es i h places is = by (find nat_cmp i es) (places i)
  where
    by : (o : Option (Unit {0})) → MatchOption o (IsFree leased i → ⊥) (λ _. IsFree leased i) → o ≡ None
    by None m = refl
    by (Some u) m = absurd (none_some h (some_is None (Some h) (sym m ∙ is)))

pub known_server : (leased : List (Option Held)) (es : List (ServerKey × ℕ)) (i : ℕ) (h : Held) → IsIndex key_cmp server_in leased es → slice_get leased i ≡ Some (Some h) → IsSome (find key_cmp h.server es)
known_server leased es i h old is = found_some key_cmp server_in leased es i h old is (find key_cmp h.server es) refl

pub some_free : (leased : List (Option Held)) (es : List (ℕ × Unit {0})) (i : ℕ) → IsFreeIndex leased es → IsFree leased i → 0 < length es
some_free leased [] i old is = absurd (old i is)
some_free leased (e ∷ es) i old is = omega arith

pub moved : (t : LeaseTable) (f f2 : List (ℕ × Unit {0})) (g g2 : List (ℕ × ℕ)) (s : List (ServerKey × ℕ)) → f2 ≡ f → g2 ≡ g → HasOrderedLists t f g s → HasOrderedLists t f2 g2 s
moved t f f2 g g2 s a b x = subst (λ k. HasOrderedLists t k g2 s) (sym a) (subst (λ k. HasOrderedLists t f k s) (sym b) x)

abbrev pub with_lease : LeaseTable → ℕ → Option Held → LeaseTable
with_lease t i o = record { pool = t.pool; leased = set t.leased i o; next = t.next }

-- a pool of which nothing is leased
abbrev here : Option (Unit {0})
here = Some tt

tests : (i n : ℕ) → cond (i == n) here (cond (nat_lt i n) here None) ≡ cond (nat_lt i (n + 1)) here None
tests i n = grind (arith, nat_tests)

pub counted_more : (n i : ℕ) (r : Option (Unit {0})) → r ≡ cond (nat_lt i n) here None → cond (eq_by_cmp nat_cmp i n) here r ≡ cond (nat_lt i (n + 1)) here None
counted_more n i r e =
    subst (λ (x : Option (Unit {0})). cond (eq_by_cmp nat_cmp i n) here x ≡ cond (nat_lt i (n + 1)) here None) (sym e)
    (subst (λ b. cond b here (cond (nat_lt i n) here None) ≡ cond (nat_lt i (n + 1)) here None) (sym (unsigned_tied i n)) (tests i n))

pub none_yet : (i : ℕ) → None ≡ cond (nat_lt i 0) here None
none_yet i = grind (arith, nat_tests)

pub not_yet : (n : ℕ) → cond (nat_lt n n) here None ≡ None
not_yet n = let t : nat_lt n n ≡ false = grind (arith, nat_tests) in ap (λ b. cond b here None) t

abbrev no_lease : Option Held
no_lease = None

replicate_at : (n i : ℕ) → i < n → slice_get (replicate n no_lease) i ≡ Some no_lease
replicate_at zero i h = absurd (omega arith)
replicate_at (suc n) zero h = refl
replicate_at (suc n) (suc i) h = replicate_at n i (omega arith)

pub all_free : (leased : List (Option Held)) (es : List (ℕ × Unit {0})) (n : ℕ) → leased ≡ replicate n None → ((i : ℕ) → find nat_cmp i es ≡ cond (nat_lt i n) here None) → IsFreeIndex leased es
all_free leased es n e p i =
    subst (FreeAt leased i) (sym (p i))
    (elim (nat_lt i n) as (λ b. nat_lt i n ≡ b → FreeAt leased i (cond b here None)) [
      | true ↦ λ t. let lt : i < n = grind (arith, nat_tests) in subst (λ (l : List (Option Held)). IsFree l i) (sym e) (replicate_at n i lt)
      | false ↦ λ t is.
          let within : i < length leased = slice_get_within leased i None is in
          let size : length leased ≡ n = ap length e ∙ length-replicate n None in
          let lt : nat_lt i n ≡ true = grind (arith, nat_tests) in
          absurd (clash (nat_lt i n) t lt)
    ] refl) where
      clash : (b : Bool) → b ≡ false → b ≡ true → ⊥
      clash b h k = cc

pub no_index : {K : Type 0} (R : K → K → Ordering) (f : Held → K) (leased : List (Option Held)) (es : List (K × ℕ)) → es ≡ [] → ((i g : ℕ) (k : ServerKey) → HoldsLease leased i g k → ⊥) → IsIndex R f leased es
no_index R f leased es e n = subst (IsIndex R f leased) (sym e) (λ q i h is p. n i h.generation h.server is)
