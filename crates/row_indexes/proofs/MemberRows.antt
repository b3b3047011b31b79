-- The indexes of members stay in step with a change of one row, and tell what a scan does.
use Rattle.std.proofs.Common.{◌≡◌, Bool, true, false, cond, List, [], ◌∷◌, ◌++◌, append_assoc, Option, Some, None, map, refl, sym, ap, ◌∙◌, subst}
use Rattle.std.specs.declared.cmp.Ordering.{Ordering}
use Rattle.std.specs.Ordering.{eq_by_cmp}
use Rattle.std.specs.Cmp.{IsTotalOrder}
use Rattle.std.specs.FinMap.{FinMap, IsAntisymmetric, keys, values, get, insert, remove, get-insert, get-remove, get_tied, same_map}
use Rattle.std.specs.BTreeMap.{BTreeMap}
use Rattle.std.specs.List.{filter}
use Rattle.keyed_rows.specs.Rows.{map_of, OwnKeys}
use Rattle.keyed_rows.specs.Sorted.{is_among}
use Rattle.keyed_rows.proofs.Finite.{tied}
use Rattle.row_indexes.specs.declared.owned.OwnedKey.{OwnedKey}
use Rattle.row_indexes.specs.Owned.{owned_cmp, keys_under}
use Rattle.row_indexes.specs.Members.{AreSameBut, TellsMembers, IsFollowed, IsRowFollowed, members_in}
use Rattle.row_indexes.proofs.MemberKeys.{followed, followed_out, members_tell}

module _ {K X : Type 0} {R : K → K → Ordering} (total : IsTotalOrder R) (rows after : FinMap R X) (key : K) where
  pub same_but_put : (value : X) → after ≡ insert rows key value → AreSameBut key rows after
  same_but_put value e k t = ap (λ m. get m k) e ∙ get-insert total rows key value k ∙ ap (λ b. cond b (Some value) (get rows k)) t

  pub same_but_taken : after ≡ remove rows key → AreSameBut key rows after
  same_but_taken e k t = ap (λ m. get m k) e ∙ get-remove total rows key k ∙ ap (λ b. cond b None (get rows k)) t

  row_there : (row : Option X) → get after key ≡ row → AreSameBut key rows after → (k : K) → get after k ≡ cond (eq_by_cmp R k key) row (get rows k)
  row_there row e same k = elim (eq_by_cmp R k key) as (λ b. eq_by_cmp R k key ≡ b → get after k ≡ cond b row (get rows k)) [
    | true ↦ λ t. sym (get_tied total after k key (tied (R k key) t)) ∙ e
    | false ↦ λ t. same k t
  ] refl

module _ {M K X : Type 0} (Q : M → M → Ordering) {R : K → K → Ordering} (total : IsTotalOrder R) (exact : IsAntisymmetric R) (members_of : X → List M) (key : K) (old : Option X) (rows : FinMap R X)
    (before after : Option (BTreeMap (OwnedKey M K) (Unit {0}))) where
  pub row_followed : (was is : List M) → was ≡ members_in members_of old → is ≡ members_in members_of (get rows key) → IsFollowed Q R key was is before after
      → IsRowFollowed Q R members_of key old rows before after
  row_followed was is o n follows earlier at same x =
      let were = o ∙ ap (members_in members_of) (sym at) in
      elim (get rows key) as (λ row. get rows key ≡ row → TellsMembers Q R members_of rows after) [
        | Some row ↦ λ e. followed Q R members_of earlier rows total before after key row was is x
            (same_map total exact _ _ (λ k. row_there total earlier rows key (Some row) e same k ∙ sym (get-insert total earlier key row k))) were (n ∙ ap (members_in members_of) e) follows
        | None ↦ λ e. followed_out Q R members_of earlier rows total before after key was is x
            (same_map total exact _ _ (λ k. row_there total earlier rows key None e same k ∙ sym (get-remove total earlier key k))) were (n ∙ ap (members_in members_of) e) follows
      ] refl

-- the keys under a member in an index that wasn't given up
pub told_keys : {M K X : Type 0} (Q : M → M → Ordering) (R : K → K → Ordering) (members : IsTotalOrder Q) (exact_members : IsAntisymmetric Q) (total : IsTotalOrder R) (exact : IsAntisymmetric R)
    (key : X → K) (members_of : X → List M) (rows : FinMap R X) (index : Option (BTreeMap (OwnedKey M K) (Unit {0}))) → TellsMembers Q R members_of rows index → OwnKeys key rows
    → (entries : BTreeMap (OwnedKey M K) (Unit {0})) → index ≡ Some entries → (member : M)
    → keys_under Q member (keys (map_of (owned_cmp Q R) entries)) ≡ map key (filter (λ row. is_among Q member (members_of row)) (values rows))
told_keys Q R members exact_members total exact key members_of rows index x own entries is member =
    members_tell Q R members exact_members total exact key members_of rows entries (subst (TellsMembers Q R members_of rows) is x) own member

-- a scan that keeps the keys of some rows: one row more is passed over or picked
module _ {K X : Type 0} (key : X → K) (p : X → Bool) (kept : List K) (row : X) (before rest : List X) (all : List K) (next : before ≡ row ∷ rest) (so_far : kept ++ map key (filter p before) ≡ all) where
  pub passed_over : p row ≡ false → kept ++ map key (filter p rest) ≡ all
  passed_over t = sym (ap (λ xs. kept ++ map key (filter p xs)) next ∙ ap (λ b. kept ++ map key (cond b (row ∷ filter p rest) (filter p rest))) t) ∙ so_far

  pub picked : p row ≡ true → (kept ++ key row ∷ []) ++ map key (filter p rest) ≡ all
  picked t = append_assoc kept (key row ∷ []) (map key (filter p rest)) ∙ sym (ap (λ xs. kept ++ map key (filter p xs)) next ∙ ap (λ b. kept ++ map key (cond b (row ∷ filter p rest) (filter p rest))) t) ∙ so_far
