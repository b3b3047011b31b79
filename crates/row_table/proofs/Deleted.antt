-- What a table is without the rows of a kind and key.
use Rattle.std.proofs.Common.{◌≡◌, ℕ, ℤ, true, false, List, None, filter, Result, Ok, Err, OnOk, refl, sym, ap, subst, ◌∙◌}
use Rattle.std.specs.List.Sorted.{IsPermutation}
use Rattle.std.proofs.lemmas.Bool.{both_ways, false_from_ne_true, and_parts, and_from}
use Rattle.std.proofs.lemmas.List.Sorted.{IsPermutation-sym}
use Rattle.keeper.specs.Rows.{AreSame, with_text}
use Rattle.sqlite.specs.declared.error.Error.{Error}
use Rattle.sqlite.specs.Edit.{id_in, without_all}
use Rattle.sqlite.specs.Order.{Row}
use Rattle.sqlite.specs.State.{State, Executes, ExecutesInside}
use Rattle.sqlite.specs.Tree.{rowid, has_rowid}
use Rattle.sqlite_rules.specs.Lists.{Has}
use Rattle.sqlite_rules.proofs.ListLemmas.{has_filtered, has_kept}
use Rattle.sqlite_rules.proofs.TableLemmas.{without_all_has}
use Rattle.row_table.specs.Stored.{stored, rows_of, IsRowTable, IsRowStore, HasRows}
use Rattle.row_table.specs.Texts.{delete_text}
use Rattle.row_table.proofs.Words.{is_named, params_of, ids_of}
use Rattle.row_table.proofs.Tests.{at_itself, same_pos, same_text, same_itself, rowid_itself}
use Rattle.row_table.proofs.Trees.{Spares, changed, gone}
use Rattle.row_table.proofs.Edits.{moved, mapped, unmapped, without_all_apart, apart_same, dropped, stays}
use Rattle.row_table.proofs.Deletes.{deletes}

named_at : (kind : ℕ) (key : List ℕ) (id : ℤ) (k : ℕ) (t x : List ℕ) → is_named (params_of kind key) (stored id k t x) ≡ true → (k ≡ kind) × (t ≡ key)
named_at kind key id k t x h = let parts = and_parts _ _ h in (same_pos k kind parts.0, same_text t key (and_parts _ _ parts.1).0)

named_itself : (id : ℤ) (k : ℕ) (t x : List ℕ) → is_named (params_of k t) (stored id k t x) ≡ true
named_itself id k t x = and_from _ _ (same_itself _ refl) (and_from _ _ (same_itself _ refl) refl)

module _ (kind : ℕ) (key : List ℕ) (old : List Row) (before : IsRowTable old) (ids : List ℤ) (same : IsPermutation (ids_of (filter (is_named (params_of kind key)) old)) ids) where
  abbrev left : List Row
  left = without_all old ids

  -- no row that is left is named
  unnamed : (r : Row) → Has left r → is_named (params_of kind key) r ≡ false
  unnamed r h = false_from_ne_true _ (λ is.
      let there = without_all_has ids old r h in
      let s = before.formed r there in
      let id_there : Has ids (id_in (rowid r)) = moved _ ids _ same (mapped (λ x. id_in (rowid x)) _ r (has_kept _ old r there is)) in
      let off = dropped ids old (id_in (rowid r)) r id_there h in
      both_ways _ off (subst (λ x. has_rowid (id_in (rowid x)) x ≡ true) (sym s.4) (rowid_itself s.0 s.1 s.2 s.3)))

  -- and each other one is left
  others_left : (r : Row) → Has old r → is_named (params_of kind key) r ≡ false → Has left r
  others_left r h other = stays ids old r (λ id there.
      let from = unmapped (λ x. id_in (rowid x)) _ id (moved ids _ id (IsPermutation-sym _ _ same) there) in
      let named = has_filtered _ old from.0 from.1 in
      let s = before.formed r h in
      let n = before.formed from.0 named.0 in
      false_from_ne_true _ (λ is.
      let id_was : id ≡ n.0 = from.2 ∙ ap (λ x. id_in (rowid x)) n.4 in
      let there_too : has_rowid id from.0 ≡ true = subst (λ x. has_rowid id x ≡ true) (sym n.4) (subst (λ i. has_rowid i (stored n.0 n.1 n.2 n.3) ≡ true) (sym id_was) (rowid_itself n.0 n.1 n.2 n.3)) in
      let one = apart_same old id r from.0 before.apart h named.0 is there_too in
      both_ways _ other (rw one named.1))) h

  pub left_table : IsRowTable left
  left_table = record {
    apart = without_all_apart ids old before.apart;
    formed = λ r h. before.formed r (without_all_has ids old r h);
    once = λ a b h k. before.once a b (without_all_has ids old a h) (without_all_has ids old b k);
  }

  spares : Spares kind key old left before left_table
  spares k t x apart = (
    λ h. (h.0, without_all_has ids old _ h.1),
    λ h. (h.0, others_left _ h.1 (false_from_ne_true _ (λ is. let at = named_at kind key h.0 k t x is in both_ways _ apart (rw (at.0, at.1) (at_itself kind key))))),
  )

  pub left_rows : AreSame (rows_of left) (with_text kind key None (rows_of old))
  left_rows = changed kind key old left before left_table None
      (gone kind key old left before left_table (λ x h. both_ways _ (unnamed _ h.1) (named_itself h.0 kind key x))) spares

pub deletes_row : (old new : State) (kind : ℕ) (key : List ℕ) (count : ℕ) → IsRowStore old.now → Executes delete_text (params_of kind key) old new (Ok count)
    → HasRows new.now (with_text kind key None (rows_of (old.now.trees 0)))
deletes_row old new kind key count store h =
    let did = deletes old new kind key (Ok count) store.0 h in
    let tree = old.now.trees 0 in
    let is = did.1.2 in (
      (did.0, subst IsRowTable (sym is) (left_table kind key tree store.1 did.1.0 did.1.1)),
      subst (λ t. AreSame (rows_of t) (with_text kind key None (rows_of tree))) (sym is) (left_rows kind key tree store.1 did.1.0 did.1.1),
    )

pub deletes_inside : (old new : State) (kind : ℕ) (key : List ℕ) (r : Result ℕ Error) → IsRowStore old.now → ExecutesInside 0 delete_text (params_of kind key) old new r
    → OnOk r (HasRows new.now (with_text kind key None (rows_of (old.now.trees 0))))
deletes_inside old new kind key (Ok count) store h = deletes_row old new kind key count store h.0
deletes_inside old new kind key (Err e) store h = tt
