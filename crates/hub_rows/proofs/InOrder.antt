-- Scopes stay in order when some are put among them or taken out.
use Rattle.std.proofs.Common.{List, [], ◌∷◌}
use Rattle.std.specs.Cmp.{IsTotalOrder}
use Rattle.std.specs.Cmp.Lexicographic.{nat_list_cmp_total}
use Rattle.std.proofs.lemmas.List.Kept.{IsStrictlySortedBy-filter}
use Rattle.keyed_rows.specs.Sorted.{IsInOrder, with_key}
use Rattle.keyed_rows.proofs.KeyLists.{in_order_sorted, is_ordered, sorted_with}
use Rattle.scope_filters.specs.Scopes.{scope_text}
use Rattle.scope_filters.specs.declared.scope.RawScope.{RawScope}
use Rattle.hub_rows.specs.SharedScopes.{scope_cmp, with_scopes, is_left, without_scopes}

pub scope_total : IsTotalOrder scope_cmp
scope_total = record {
  antisymm = λ a b. nat_list_cmp_total.antisymm (scope_text a) (scope_text b);
  trans = λ a b c. nat_list_cmp_total.trans (scope_text a) (scope_text b) (scope_text c);
  congr = λ a b c. nat_list_cmp_total.congr (scope_text a) (scope_text b) (scope_text c);
}

pub with_ordered : (more kept : List RawScope) → IsInOrder scope_cmp kept → IsInOrder scope_cmp (with_scopes more kept)
with_ordered [] kept h = h
with_ordered (x ∷ more) kept h =
    with_ordered more (with_key scope_cmp x kept) (is_ordered scope_cmp (with_key scope_cmp x kept) (sorted_with scope_total x kept (in_order_sorted scope_total kept h)))

pub without_ordered : (less kept : List RawScope) → IsInOrder scope_cmp kept → IsInOrder scope_cmp (without_scopes less kept)
without_ordered less kept h =
    is_ordered scope_cmp (without_scopes less kept) (IsStrictlySortedBy-filter scope_cmp (is_left less) kept (in_order_sorted scope_total kept h))
