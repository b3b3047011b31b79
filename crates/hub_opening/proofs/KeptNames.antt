-- Names in order of which some are left out are in order.
use Rattle.std.proofs.Common.{◌≡◌, ℕ, ◌≤◌, Bool, List, ◌++◌, length, drop, ap, sym, subst, ◌∙◌, append-nil}
use Rattle.std.proofs.lemmas.List.{drop_all}
use Rattle.std.specs.Cmp.{IsTotalOrder}
use Rattle.std.specs.declared.cmp.Ordering.{Ordering}
use Rattle.std.specs.FinMap.{IsAntisymmetric}
use Rattle.std.specs.List.{filter}
use Rattle.std.proofs.lemmas.List.Kept.{IsStrictlySortedBy-filter}
use Rattle.keyed_rows.specs.Sorted.{IsInOrder, in_order}
use Rattle.keyed_rows.proofs.KeyLists.{same_keys, sorted_in_order, among_in_order, in_order_sorted}

pub kept_in_order : {K : Type 0} {R : K → K → Ordering} (total : IsTotalOrder R) (exact : IsAntisymmetric R) (p : K → Bool) (ks : List K)
    → IsInOrder R ks → in_order R (filter p ks) ≡ filter p ks
kept_in_order {R = R} total exact p ks h =
    same_keys total exact (in_order R (filter p ks)) (filter p ks) (sorted_in_order total exact (filter p ks))
    (IsStrictlySortedBy-filter R p ks (in_order_sorted total ks h)) (λ q. among_in_order total exact q (filter p ks))

-- a walk that is past its end has left out all that aren't kept
pub all_walked : {K : Type 0} (p : K → Bool) (names items : List K) (i : ℕ) (kept : List K)
    → kept ++ filter p (drop i names) ≡ filter p names → items ≡ names → length items ≤ i → kept ≡ filter p names
all_walked p names items i kept so_far same past =
    sym (ap (λ rest. kept ++ filter p rest) (drop_all i names (subst (λ (ns : List _). length ns ≤ i) same past)) ∙ append-nil kept) ∙ so_far
