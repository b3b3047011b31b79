-- Who is in a group, and the names of a user's groups.
use Rattle.std.proofs.Common.{◌≡◌, ℕ, Bool, List, map, Some, sym, ap, ◌∙◌}
use Rattle.std.specs.Cmp.Lexicographic.{nat_list_cmp_total, texts_ties}
use Rattle.std.specs.FinMap.{FinMap, get, values}
use Rattle.std.specs.List.{filter, list_any}
use Rattle.hub_kit.specs.KeyOrder.{name_cmp}
use Rattle.keyed_rows.specs.Rows.{OwnKeys}
use Rattle.keyed_rows.specs.Sorted.{is_among, in_order}
use Rattle.keyed_rows.proofs.InOrder.{found_rise}
use Rattle.keyed_rows.proofs.KeyLists.{same_keys, sorted_in_order, among_in_order}
use Rattle.scope_filters.specs.Contexts.{same, is_member}
use Rattle.hub_rows.specs.ShareOrder.{names_exact}
use Rattle.hub_rows.specs.declared.records.Group.{Group}
use Rattle.hub_tables.specs.Memberships.{users_of, members_of}

among_is : (user : List ℕ) (names : List (List ℕ)) → is_among name_cmp user names ≡ list_any (same user) names
among_is user names = ap (λ p. list_any p names) (λ i name. sym (texts_ties user name) i)

pub member_of : (groups : FinMap name_cmp Group) (user group : List ℕ) (row : Group) → get groups group ≡ Some row → is_among name_cmp user row.users ≡ is_member (members_of groups) user group
member_of groups user group row at = among_is user row.users ∙ ap (λ o. list_any (same user) (users_of o)) (sym at)

-- the names of some groups in the order of their rows, put in order
pub names_in_order : (p : Group → Bool) (groups : FinMap name_cmp Group) → OwnKeys (λ (g : Group). g.name) groups → (names : List (List ℕ))
    → names ≡ map (λ (g : Group). g.name) (filter p (values groups)) → in_order name_cmp names ≡ map (λ (g : Group). g.name) (filter p (values groups))
names_in_order p groups own names is =
    let found : List (List ℕ) = map (λ (g : Group). g.name) (filter p (values groups)) in
    ap (in_order name_cmp) is
    ∙ same_keys nat_list_cmp_total names_exact (in_order name_cmp found) found (sorted_in_order nat_list_cmp_total names_exact found) (found_rise nat_list_cmp_total names_exact (λ (g : Group). g.name) p groups own) (λ q. among_in_order nat_list_cmp_total names_exact q found)
