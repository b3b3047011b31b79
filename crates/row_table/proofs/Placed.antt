-- What a table is with a text under a kind and key.
use Rattle.std.proofs.Common.{◌≡◌, ◌⊎◌, inl, inr, ℕ, ℤ, pos, Bool, true, false, ◌&&◌, ◌||◌, cond, List, [], ◌∷◌, Some, map, filter, drop, Result, Ok, Err, OnOk, true≢false, refl, sym, ap, subst, ◌∙◌}
use Rattle.std.specs.List.Sorted.{IsPermutation}
use Rattle.std.proofs.lemmas.Bool.{both_ways, false_from_ne_true, and_parts, and_from, or_cases, or_left}
use Rattle.std.proofs.lemmas.List.Sorted.{IsPermutation-sym}
use Rattle.keeper.specs.Rows.{AreSame, is_at, with_text}
use Rattle.sqlite.specs.declared.error.Error.{Error}
use Rattle.sqlite.specs.Cast.{cast, cast_row}
use Rattle.sqlite.specs.Edit.{id_in, next_rowid, without_all, put_all, are_fresh, numbered}
use Rattle.sqlite.specs.Kind.TheVariants.{Integer}
use Rattle.sqlite.specs.Ops.{unary, is_null}
use Rattle.sqlite.specs.Order.{Row, column}
use Rattle.sqlite.specs.Rowids.TheVariants.{Given}
use Rattle.sqlite.specs.State.{State, Executes, ExecutesInside}
use Rattle.sqlite.specs.Tree.{rowid, has_rowid}
use Rattle.sqlite.specs.declared.types.Value.{Value}
use Rattle.sqlite.specs.declared.types.Value.TheVariants.{Null, Int, Text}
use Rattle.sqlite_rules.specs.Lists.{Has}
use Rattle.sqlite_rules.proofs.ListLemmas.{has_filtered, has_kept}
use Rattle.sqlite_rules.proofs.PlaceLemmas.{given}
use Rattle.sqlite_rules.proofs.TableLemmas.{without_all_has, put_all_has, put_all_keeps, put_all_adds}
use Rattle.sqlite_value.specs.Keys.{first_key}
use Rattle.row_table.specs.Stored.{stored, is_under, rows_of, IsStored, IsRowTable, IsRowStore, HasRows}
use Rattle.row_table.specs.Tables.{row_table}
use Rattle.row_table.specs.Texts.{put_text}
use Rattle.row_table.proofs.Words as words
use Rattle.row_table.proofs.Words.{has_id, has_key_of, new_row, ids_of, mended, IsAdded, IsChanged, Puts}
use Rattle.row_table.proofs.Tests.{is_same, under_is, under_from, same_pos, same_int, same_text, same_itself, rowid_itself}
use Rattle.row_table.proofs.Trees.{Spares, changed, found}
use Rattle.row_table.proofs.Edits.{moved, mapped, unmapped, AreApart, apart_same, put_all_apart, without_all_apart, dropped, stays}
use Rattle.row_table.proofs.Puts.{put_params, puts}

-- a tree that has the row, and of the old rows those that stand under another kind or key
module _ (kind : ℕ) (key text : List ℕ) (id : ℤ) (old new : List Row) (before : IsRowTable old) (apart_new : AreApart new) (there : Has new (stored id kind key text))
    (from : (x : Row) → Has new x → (x ≡ stored id kind key text) ⊎ (Has old x × (is_under kind key x ≡ false)))
    (kept : (x : Row) → Has old x → is_under kind key x ≡ false → Has new x) where
  apart : (a b : Row) → a ≡ stored id kind key text → is_under kind key b ≡ false → column a 1 ≡ column b 1 → column a 2 ≡ column b 2 → a ≡ b
  apart a b is other p q = absurd (both_ways _ other (under_from kind key b (sym p ∙ ap (λ x. column x 1) is) (sym q ∙ ap (λ x. column x 2) is)))

  pub placed_table : IsRowTable new
  placed_table = record {
    apart = apart_new;
    formed = λ r h. elim (from r h) [ inl is ↦ (id, kind, key, text, is) | inr was ↦ before.formed r was.0 ];
    once = λ a b h k p q. elim (from a h) [
      | inl is ↦ elim (from b k) [ inl also ↦ is ∙ sym also | inr was ↦ apart a b is was.1 p q ]
      | inr was ↦ elim (from b k) [ inl is ↦ sym (apart b a is was.1 (sym p) (sym q)) | inr also ↦ before.once a b was.0 also.0 p q ]
    ];
  }

  elsewhere : (i : ℤ) (k : ℕ) (t x : List ℕ) → is_at kind key k t ≡ false → is_under kind key (stored i k t x) ≡ false
  elsewhere i k t x other = other

  spares : Spares kind key old new before placed_table
  spares k t x other = (
    λ h. (
      h.0,
      elim (from _ h.1) [
        | inl is ↦ absurd (both_ways _ (elsewhere h.0 k t x other) (under_from kind key (stored h.0 k t x) (ap (λ y. column y 1) is) (ap (λ y. column y 2) is)))
        | inr was ↦ was.0
      ],
    ),
    λ h. (h.0, kept _ h.1 (elsewhere h.0 k t x other)),
  )

  pub placed_rows : AreSame (rows_of new) (with_text kind key (Some text) (rows_of old))
  placed_rows = changed kind key old new before placed_table (Some text) (found kind key text new placed_table.once (id, there)) spares

either : (b : Bool) (x : Value) → cond b x x ≡ x
either true x = refl
either false x = refl

cast_null : cast Integer Null ≡ Null
unfolding unary
cast_null = either _ Null

cast_int : (n : ℤ) → cast Integer (Int n) ≡ Int n
unfolding unary
cast_int n = either _ (Int n)

pub cast_stored : (id : ℤ) (kind : ℕ) (key text : List ℕ) → cast_row row_table (stored id kind key text) ≡ stored id kind key text
cast_stored id kind key text = rw (cast_int id, cast_int (pos kind)) refl

pub new_is : (tree : List Row) (kind : ℕ) (key text : List ℕ) → new_row tree kind key text ≡ stored (next_rowid tree) kind key text
new_is tree kind key text = rw (cast_null, cast_int (pos kind)) refl

pub key_test : (new r : Row) → has_key_of new r ≡ ((is_same (column r 1) (column new 1) && (is_same (column r 2) (column new 2) && true)) || false)
unfolding first_key
key_test new r = refl

-- the test whether a row has the kind and key of the new one
key_from : (kind : ℕ) (key : List ℕ) (new r : Row) → column new 1 ≡ Int (pos kind) → column new 2 ≡ Text key → is_under kind key r ≡ true → has_key_of new r ≡ true
key_from kind key new r p q h =
    let under = under_is kind key r h in
    key_test new r ∙ rw (under.0, under.1, p, q) (or_left _ _ (and_from _ _ (same_itself _ refl) (and_from _ _ (same_itself _ refl) refl)))

key_at : (kind : ℕ) (key : List ℕ) (new r : Row) → column new 1 ≡ Int (pos kind) → column new 2 ≡ Text key → IsStored r → has_key_of new r ≡ true → is_under kind key r ≡ true
key_at kind key new r p q s h =
    let test = sym (key_test new r) ∙ h in
    let parts : (is_same (column r 1) (column new 1) && (is_same (column r 2) (column new 2) && true)) ≡ true = elim (or_cases _ _ test) [ inl both ↦ both | inr none ↦ absurd (true≢false (sym none)) ] in
    let first = (and_parts _ _ parts).0 in
    let second = (and_parts _ _ (and_parts _ _ parts).1).0 in
    let kinds : s.1 ≡ kind = same_pos s.1 kind (subst (λ v. is_same v (Int (pos kind)) ≡ true) (ap (λ x. column x 1) s.4) (subst (λ v. is_same (column r 1) v ≡ true) p first)) in
    let keys : s.2 ≡ key = same_text s.2 key (subst (λ v. is_same v (Text key) ≡ true) (ap (λ x. column x 2) s.4) (subst (λ v. is_same (column r 2) v ≡ true) q second)) in
    under_from kind key r (ap (λ x. column x 1) s.4 ∙ ap (λ k. Int (pos k)) kinds) (ap (λ x. column x 2) s.4 ∙ ap Text keys)

module _ (kind : ℕ) (key text : List ℕ) (old new : List Row) (before : IsRowTable old) where
  abbrev Placed : Type 0
  Placed = IsRowTable new × AreSame (rows_of new) (with_text kind key (Some text) (rows_of old))

  -- no row had the kind and key
  added : (z : Row) → z ≡ stored (next_rowid old) kind key text → IsAdded z old new → Placed
  added z is h =
      let id = next_rowid old in
      let row = stored id kind key text in
      let tree : new ≡ put_all old (row ∷ []) = h.1 ∙ ap (λ x. put_all old (x ∷ [])) (ap (cast_row row_table) is ∙ cast_stored id kind key text) in
      let fresh : are_fresh old (row ∷ []) ≡ true = subst (λ x. are_fresh old (x ∷ []) ≡ true) (ap (cast_row row_table) is ∙ cast_stored id kind key text) h.2 in
      let lacks : (r : Row) → Has old r → is_under kind key r ≡ false = λ r there.
      false_from_ne_true _ (λ under. h.0 r there (key_from kind key z r (ap (λ x. column x 1) is) (ap (λ x. column x 2) is) under)) in
      let apart_new : AreApart new = subst AreApart (sym tree) (put_all_apart (row ∷ []) old fresh before.apart) in
      let there : Has new row = subst (λ t. Has t row) (sym tree) (put_all_adds (row ∷ []) old row fresh (inl refl)) in
      let from : (x : Row) → Has new x → (x ≡ row) ⊎ (Has old x × (is_under kind key x ≡ false)) = λ x has. elim (put_all_has (row ∷ []) old x (subst (λ t. Has t x) tree has)) [
        | inl one ↦ elim one [ inl same ↦ inl same | inr none ↦ absurd none ]
        | inr was ↦ inr (was, lacks x was)
      ] in
      let kept : (x : Row) → Has old x → is_under kind key x ≡ false → Has new x = λ x has other. subst (λ t. Has t x) (sym tree) (put_all_keeps (row ∷ []) old x fresh has) in
      (placed_table kind key text id old new before apart_new there from kept, placed_rows kind key text id old new before apart_new there from kept)

  module _ (r : Row) (id : ℤ) (k : ℕ) (t x : List ℕ) (is : r ≡ stored id k t x) (was : Has old r) (under : is_under kind key r ≡ true) where
    abbrev row : Row
    row = stored id kind key text

    abbrev update : Row
    update = words.with_text (Text text) r

    update_is : update ≡ Int id ∷ row
    update_is =
        let at = under_is kind key r under in
        let first : rowid r ≡ Int id = ap rowid is in
        rw (first, at.0, at.1) refl

    mended_is : cast_row row_table (drop 1 update) ≡ row
    mended_is = ap (λ y. cast_row row_table (drop 1 y)) update_is ∙ cast_stored id kind key text

    -- the row with this rowid, or with this kind and key, is that one
    by_rowid : (y : Row) → Has old y → has_rowid id y ≡ true → y ≡ r
    by_rowid y there same = apart_same old id y r before.apart there was same (subst (λ z. has_rowid id z ≡ true) (sym is) (rowid_itself id k t x))

    by_key : (y : Row) → Has old y → is_under kind key y ≡ true → y ≡ r
    by_key y there h =
        let at = under_is kind key r under in
        let too = under_is kind key y h in
        before.once y r there was (too.0 ∙ sym at.0) (too.1 ∙ sym at.1)

    r_rowid : has_rowid id r ≡ true
    r_rowid = subst (λ z. has_rowid id z ≡ true) (sym is) (rowid_itself id k t x)

    module _ (rows : List Row) (same : IsPermutation (map (words.with_text (Text text)) (filter (has_id (rowid r)) old)) rows) where
      abbrev left : List Row
      left = without_all old (ids_of rows)

      each : (y : Row) → Has rows y → y ≡ update
      each y there =
          let from = unmapped (words.with_text (Text text)) (filter (has_id (rowid r)) old) y (moved rows _ y (IsPermutation-sym _ _ same) there) in
          let kept = has_filtered (has_id (rowid r)) old from.0 from.1 in
          let s = before.formed from.0 kept.0 in
          let test : is_same (Int s.0) (Int id) ≡ true = subst (λ v. is_same v (Int id) ≡ true) (ap rowid s.4) (subst (λ v. is_same (rowid from.0) v ≡ true) (ap rowid is) (and_parts _ _ kept.1).0) in
          let id_is : s.0 ≡ id = same_int s.0 id test in
          let found_again : has_rowid id from.0 ≡ true = subst (λ z. has_rowid id z ≡ true) (sym s.4) (subst (λ i. has_rowid id (stored i s.1 s.2 s.3) ≡ true) (sym id_is) (rowid_itself id s.1 s.2 s.3)) in
          from.2 ∙ ap (words.with_text (Text text)) (by_rowid from.0 kept.0 found_again)

      one : Has rows update
      one =
          let itself : has_id (rowid r) r ≡ true = and_from _ _ (same_itself (rowid r) (ap (λ z. is_null (rowid z)) is)) refl in
          moved _ rows update same (mapped (words.with_text (Text text)) (filter (has_id (rowid r)) old) r (has_kept (has_id (rowid r)) old r was itself))

      id_there : Has (ids_of rows) id
      id_there = subst (Has (ids_of rows)) (ap (λ y. id_in (rowid y)) update_is) (mapped (λ y. id_in (rowid y)) rows update one)

      each_id : (i : ℤ) → Has (ids_of rows) i → i ≡ id
      each_id i there = let from = unmapped (λ y. id_in (rowid y)) rows i there in from.2 ∙ ap (λ y. id_in (rowid y)) (each from.0 from.1 ∙ update_is)

      news_has : Has (mended rows) row
      news_has = subst (Has (mended rows)) mended_is (mapped (λ s. cast_row row_table (drop 1 s)) rows update one)

      each_new : (y : Row) → Has (mended rows) y → y ≡ row
      each_new y there = let from = unmapped (λ s. cast_row row_table (drop 1 s)) rows y there in from.2 ∙ ap (λ s. cast_row row_table (drop 1 s)) (each from.0 from.1) ∙ mended_is

      replaced : new ≡ put_all left (mended rows) → are_fresh left (mended rows) ≡ true → Placed
      replaced tree fresh =
          let apart_new : AreApart new = subst AreApart (sym tree) (put_all_apart (mended rows) left fresh (without_all_apart (ids_of rows) old before.apart)) in
          let there : Has new row = subst (λ t. Has t row) (sym tree) (put_all_adds (mended rows) left row fresh news_has) in
          let from : (y : Row) → Has new y → (y ≡ row) ⊎ (Has old y × (is_under kind key y ≡ false)) = λ y has. elim (put_all_has (mended rows) left y (subst (λ t. Has t y) tree has)) [
            | inl new_one ↦ inl (each_new y new_one)
            | inr kept ↦
                let old_one = without_all_has (ids_of rows) old y kept in
                inr (old_one, false_from_ne_true _ (λ h. both_ways _ (dropped (ids_of rows) old id y id_there kept) (subst (λ z. has_rowid id z ≡ true) (sym (by_key y old_one h)) r_rowid)))
          ] in
          let kept : (y : Row) → Has old y → is_under kind key y ≡ false → Has new y = λ y has other. subst (λ t. Has t y) (sym tree) (put_all_keeps (mended rows) left y fresh
          (stays (ids_of rows) old y (λ i among. false_from_ne_true _ (λ h. both_ways _ other (subst (λ z. is_under kind key z ≡ true) (sym (by_rowid y has (subst (λ j. has_rowid j y ≡ true) (each_id i among) h))) under))) has)) in
          (placed_table kind key text id old new before apart_new there from kept, placed_rows kind key text id old new before apart_new there from kept)

  -- the row that had them has the new text
  replaces : (z r : Row) → z ≡ stored (next_rowid old) kind key text → IsChanged z r old new → Placed
  replaces z r is h =
      let s = before.formed r h.0 in
      let under = key_at kind key z r (ap (λ x. column x 1) is) (ap (λ x. column x 2) is) s h.1 in
      let rows = h.2.0 in
      let text_is : column z 3 ≡ Text text = ap (λ x. column x 3) is in
      let same = subst (λ v. IsPermutation (map (words.with_text v) (filter (has_id (rowid r)) old)) rows) text_is h.2.1 in
      let left_rows = without_all old (ids_of rows) in
      let news : numbered Given left_rows (mended rows) ≡ mended rows = given left_rows (mended rows) in
      replaced r s.0 s.1 s.2 s.3 s.4 h.0 under rows same (subst (λ n. new ≡ put_all left_rows n) news h.2.2) (subst (λ n. are_fresh left_rows n ≡ true) news h.2.3)

  pub put : Puts kind key text old new → Placed
  put (inl h) = added (new_row old kind key text) (new_is old kind key text) h
  put (inr h) = replaces (new_row old kind key text) h.0 (new_is old kind key text) h.1

pub puts_row : (old new : State) (kind : ℕ) (key text : List ℕ) (count : ℕ) → IsRowStore old.now → Executes put_text (put_params kind key text) old new (Ok count)
    → HasRows new.now (with_text kind key (Some text) (rows_of (old.now.trees 0)))
puts_row old new kind key text count store h =
    let did = puts old new kind key text (Ok count) store.0 h in
    let all = put kind key text (old.now.trees 0) (new.now.trees 0) store.1 did.1 in
    ((did.0, all.0), all.1)

pub puts_inside : (old new : State) (kind : ℕ) (key text : List ℕ) (r : Result ℕ Error) → IsRowStore old.now → ExecutesInside 0 put_text (put_params kind key text) old new r
    → OnOk r (HasRows new.now (with_text kind key (Some text) (rows_of (old.now.trees 0))))
puts_inside old new kind key text (Ok count) store h = puts_row old new kind key text count store h.0
puts_inside old new kind key text (Err e) store h = tt
