-- The names that are kept, among all and among some.
use Rattle.std.proofs.Common.{◌≡◌, Bool, true, false, ◌&&◌, ◌||◌, cond, List, [], ◌∷◌, Some, is_some, length, refl, sym, ap, ◌∙◌}
use Rattle.std.proofs.lemmas.List.{length-map}
use Rattle.std.proofs.lemmas.List.Kept.{IsStrictlySortedBy-filter}
use Rattle.std.specs.declared.cmp.Ordering.{Ordering}
use Rattle.std.specs.Ordering.{eq_by_cmp}
use Rattle.std.specs.Cmp.{IsTotalOrder}
use Rattle.std.specs.BTreeMap as tree
use Rattle.std.specs.BTreeMap.{BTreeMap, IsOrdered}
use Rattle.std.specs.FinMap.{FinMap, IsAntisymmetric, contains_key, find, entries, entries_sorted, keys, len, get-entries, len-entries}
use Rattle.std.specs.List.{filter}
use Rattle.keyed_rows.specs.Rows.{map_of}
use Rattle.keyed_rows.specs.Sorted.{is_among, IsInOrder}
use Rattle.keyed_rows.proofs.Finite.{tied, keys_row}
use Rattle.keyed_rows.proofs.KeyLists.{same_keys, in_order_sorted}
use Rattle.keyed_rows.proofs.InOrder.{keys_in, rise}
use Rattle.hub_view.specs.Pages.{kept}

pub all_pass : {A : Type 0} (xs : List A) → filter (λ x. true) xs ≡ xs
all_pass [] = refl
all_pass (x ∷ xs) = ap (λ ys. x ∷ ys) (all_pass xs)

-- every key is kept, and counted
pub keys_kept : {K X : Type 0} {R : K → K → Ordering} (total : IsTotalOrder R) (m : BTreeMap K X) → IsOrdered R m → tree.keys m ≡ kept (λ k. true) (map_of R m)
keys_kept {R = R} total m s = sym (keys_row total m s) ∙ sym (all_pass (keys (map_of R m)))

pub len_kept : {K X : Type 0} {R : K → K → Ordering} (m : FinMap R X) → len m ≡ length (kept (λ k. true) m)
len_kept m = len-entries m ∙ sym (length-map (entries m) (λ e. e.0)) ∙ ap length (sym (all_pass (keys m)))

and_swap : (a b : Bool) → (a && b) ≡ (b && a)
and_swap true true = refl
and_swap true false = refl
and_swap false true = refl
and_swap false false = refl

module _ {K : Type 0} {R : K → K → Ordering} (total : IsTotalOrder R) (exact : IsAntisymmetric R) where
  passes_too : (p : K → Bool) (q k : K) (b c : Bool) → p k ≡ c → eq_by_cmp R q k ≡ b → (rest : Bool) → (cond c (b || (p q && rest)) (p q && rest)) ≡ (p q && (b || rest))
  passes_too p q k true true pk e rest = ap (λ d. d && true) (sym (ap p (exact q k (tied (R q k) e)) ∙ pk))
  passes_too p q k true false pk e rest = ap (λ d. d && rest) (ap p (exact q k (tied (R q k) e)) ∙ pk) ∙ ap (λ d. d && true) (sym (ap p (exact q k (tied (R q k) e)) ∙ pk))
  passes_too p q k false true pk e rest = refl
  passes_too p q k false false pk e rest = refl

  any_where : (c : Bool) (q k : K) (ks : List K) → is_among R q (cond c (k ∷ ks) ks) ≡ cond c (eq_by_cmp R q k || is_among R q ks) (is_among R q ks)
  any_where true q k ks = refl
  any_where false q k ks = refl

  among_filter : (p : K → Bool) (q : K) (ks : List K) → is_among R q (filter p ks) ≡ (p q && is_among R q ks)
  among_filter p q [] = and_swap false (p q)
  among_filter p q (k ∷ ks) =
      any_where (p k) q k (filter p ks)
      ∙ ap (λ b. cond (p k) (eq_by_cmp R q k || b) b) (among_filter p q ks)
      ∙ passes_too p q k (eq_by_cmp R q k) (p k) refl refl (is_among R q ks)

  among_entries : {X : Type 0} (q : K) (es : List (K × X)) → is_among R q (keys_in es) ≡ is_some (find R q es)
  among_entries q [] = refl
  among_entries q (e ∷ es) = elim (eq_by_cmp R q e.0) as (λ b. (b || is_among R q (keys_in es)) ≡ is_some (cond b (Some e.1) (find R q es))) [
    | true ↦ refl
    | false ↦ among_entries q es
  ]

  among_keys : {X : Type 0} (m : FinMap R X) (q : K) → is_among R q (keys m) ≡ contains_key m q
  among_keys m q = among_entries q (entries m) ∙ ap is_some (sym (get-entries m q))

  -- the kept ones among names in order are the names of the rows that are among these
  pub kept_these : {X : Type 0} (m : FinMap R X) (names : List K) → IsInOrder R names → filter (contains_key m) names ≡ kept (λ k. is_among R k names) m
  kept_these m names ordered =
      same_keys total exact (filter (contains_key m) names) (filter (λ k. is_among R k names) (keys m))
      (IsStrictlySortedBy-filter R (contains_key m) names (in_order_sorted total names ordered))
      (IsStrictlySortedBy-filter R (λ k. is_among R k names) (keys m) (rise R (entries m) (entries_sorted m)))
      (λ q. among_filter (contains_key m) q names ∙ and_swap (contains_key m q) (is_among R q names)
      ∙ ap (λ b. is_among R q names && b) (sym (among_keys m q)) ∙ sym (among_filter (λ k. is_among R k names) q (keys m)))
