-- The groups of a user, found by a scan over the groups.
use Rattle.std.proofs.Common.{◌≡◌, ℕ, List, Option, Some, None, refl, sym, ap, ◌∙◌}
use Rattle.std.specs.Cmp.Lexicographic.{nat_list_cmp_total, texts_ties}
use Rattle.std.specs.FinMap.{get}
use Rattle.std.specs.List.{list_any}
use Rattle.hub_kit.specs.KeyOrder.{name_cmp}
use Rattle.keyed_rows.specs.Rows.{OwnKeys, is_kept_and}
use Rattle.keyed_rows.specs.Sorted.{is_among}
use Rattle.scope_filters.specs.Contexts.{same, is_member}
use Rattle.hub_rows.specs.ShareOrder.{names_exact}
use Rattle.hub_rows.specs.declared.records.Group.{Group}
use Rattle.hub_tables.specs.Lookups.{groups_of}
use Rattle.hub_tables.specs.Memberships.{users_of}
use Rattle.hub_tables.specs.State.{State}
use Rattle.roles.specs.Rights.{context}
use Rattle.keyed_rows.proofs.InOrder.{found_among}

in_row : (user : List ℕ) (o : Option Group) → is_kept_and (λ (row : Group). is_among name_cmp user row.users) o ≡ list_any (same user) (users_of o)
in_row user None = refl
in_row user (Some row) = ap (λ p. list_any p row.users) (λ i name. sym (texts_ties user name) i)

-- a user is a member of a group that is among the user's groups
pub member : (t : State) (user : List ℕ) → OwnKeys (λ (row : Group). row.name) t.groups → (group : List ℕ) → is_among name_cmp group (groups_of t user) ≡ is_member (context t) user group
member t user own group =
    found_among nat_list_cmp_total names_exact (λ (row : Group). row.name) (λ (row : Group). is_among name_cmp user row.users) t.groups own group ∙ in_row user (get t.groups group)
