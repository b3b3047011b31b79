-- A token or a share code is new among rows where neither its id nor its hash is kept.
use Rattle.std.proofs.Common.{◌≡◌, ℕ, Bool, true, false, not, cond, ◌||◌, List, [], ◌∷◌, ◌++◌, length, map, Option, Some, None, is_some, refl, ap, sym, ◌∙◌, arith}
use Rattle.std.specs.declared.cmp.Ordering.{Ordering}
use Rattle.std.specs.declared.cmp.Ordering.TheVariants.{Less, Equal, Greater}
use Rattle.std.specs.Cmp.{nat_cmp_total, eq_by_cmp_equiv}
use Rattle.std.specs.Cmp.Lexicographic.{nat_list_cmp_total}
use Rattle.std.specs.Ordering.{nat_cmp, is_eq, eq_by_cmp}
use Rattle.std.specs.List as scan
use Rattle.std.specs.List.{list_any}
use Rattle.std.specs.FinMap.{FinMap, get, insert, contains_key, values, entries, empty, entries-insert, get-entries, get-empty, len-entries, len-empty}
use Rattle.std.specs.FinMap.Entries.{find, put, by_order}
use Rattle.hub_kit.specs.KeyOrder.{name_cmp}
use Rattle.hub_rows.specs.declared.rows.Row.{Row}
use Rattle.hub_rows.specs.declared.records.ShareCode.{ShareCode}
use Rattle.hub_rows.specs.declared.records.Token.{Token}
use Rattle.hub_tables.specs.Changes.{with_row, FitsKey}
use Rattle.hub_tables.specs.Hashes.{row_with, FitsCode}
use Rattle.hub_tables.specs.State.{State}
use Rattle.row_rules.specs.Across.{is_this, has, is_new, token_id, token_hash, code_id, code_hash}
use Rattle.row_rules.specs.Judged.{Holds, AreHeld, IsBare, is_free, is_hashed}
use Rattle.hub_tables.proofs.Fresh.{fits_fresh}
use Rattle.row_rules.proofs.Marks.{or_none, or_joined, has_more, has_skipped, contains_more}

none_some : {A : Type 0} {x : A} → None ≡ Some x → ⊥
none_some h = cc

some_none : {A : Type 0} {x : A} → Some x ≡ None → ⊥
some_none h = cc

or_turned : (a b : Bool) → (a || b) ≡ (b || a)
or_turned true true = refl
or_turned true false = refl
or_turned false true = refl
or_turned false false = refl

-- ---- a scan of the rows, with one more under a new id

module _ {X : Type 0} (p : X → Bool) where
  found_any : (xs : List X) → is_some (scan.find p xs) ≡ list_any p xs
  found_any [] = refl
  found_any (x ∷ xs) = elim (p x) as (λ b. is_some (cond b (Some x) (scan.find p xs)) ≡ (b || list_any p xs)) [ true ↦ refl | false ↦ found_any xs ]

  any_turn : (k : ℕ) (v : X) (e : ℕ × X) (es : List (ℕ × X)) → cond (eq_by_cmp nat_cmp k e.0) (Some e.1) (find nat_cmp k es) ≡ None
      → (find nat_cmp k es ≡ None → list_any p (map (λ e. e.1) (put nat_cmp k v es)) ≡ (list_any p (map (λ e. e.1) es) || p v))
      → (r : Ordering) → nat_cmp k e.0 ≡ r
      → list_any p (map (λ e. e.1) (by_order r ((k, v) ∷ e ∷ es) ((e.0, v) ∷ es) (e ∷ put nat_cmp k v es))) ≡ (list_any p (e.1 ∷ map (λ e. e.1) es) || p v)
  any_turn k v e es h later Less r = or_turned (p v) _
  any_turn k v e es h later Equal r = absurd (none_some (sym h ∙ ap (λ o. cond (is_eq o) (Some e.1) (find nat_cmp k es)) r))
  any_turn k v e es h later Greater r =
      ap (λ b. p e.1 || b) (later (sym (ap (λ o. cond (is_eq o) (Some e.1) (find nat_cmp k es)) r) ∙ h)) ∙ or_joined (p e.1) _ (p v)

  any_put : (k : ℕ) (v : X) (es : List (ℕ × X)) → find nat_cmp k es ≡ None → list_any p (map (λ e. e.1) (put nat_cmp k v es)) ≡ (list_any p (map (λ e. e.1) es) || p v)
  any_put k v [] h = sym (or_none (p v))
  any_put k v (e ∷ es) h = any_turn k v e es h (λ n. any_put k v es n) (nat_cmp k e.0) refl

  found_more : (m : FinMap nat_cmp X) (k : ℕ) (v : X) → get m k ≡ None → is_some (scan.find p (values (insert m k v))) ≡ (is_some (scan.find p (values m)) || p v)
  found_more m k v new =
      found_any (values (insert m k v)) ∙ ap (λ es. list_any p (map (λ e. e.1) es)) (entries-insert nat_cmp_total m k v)
      ∙ any_put k v (entries m) (sym (get-entries m k) ∙ new) ∙ ap (λ b. b || p v) (sym (found_any (values m)))

no_entries : {A : Type 0} (es : List A) → length es ≡ 0 → es ≡ []
no_entries [] h = refl
no_entries (e ∷ es) h = absurd (omega (arith, h))

-- ---- the ids and the hashes of rows

module _ {X : Type 0} (hash_of : X → List ℕ) (id : Row → Option ℕ) (hash : Row → Option (List ℕ)) where
  none_held : (kept : FinMap nat_cmp X) → kept ≡ empty → Holds hash_of id hash kept []
  none_held kept e = record {
    ids = λ key. ap (λ m. contains_key m key) e ∙ ap is_some (get-empty nat_cmp key);
    hashes = λ key. found_any (λ row. eq_by_cmp name_cmp (hash_of row) key) (values kept)
        ∙ ap (λ es. list_any (λ row. eq_by_cmp name_cmp (hash_of row) key) (map (λ e. e.1) es)) (ap entries e ∙ no_entries (entries empty) (sym (len-entries empty) ∙ len-empty nat_cmp X));
  }

  module _ (kept : FinMap nat_cmp X) (rows : List Row) (row : Row) (h : Holds hash_of id hash kept rows) where
    skipped : id row ≡ None → hash row ≡ None → Holds hash_of id hash kept (rows ++ row ∷ [])
    skipped no_id no_hash = record {
      ids = λ key. h.ids key ∙ sym (has_skipped nat_cmp id rows row key no_id);
      hashes = λ key. h.hashes key ∙ sym (has_skipped name_cmp hash rows row key no_hash);
    }

    held : (k : ℕ) (v : X) → id row ≡ Some k → hash row ≡ Some (hash_of v) → get kept k ≡ None → Holds hash_of id hash (insert kept k v) (rows ++ row ∷ [])
    held k v at with_hash new = record {
      ids = λ key. contains_more nat_cmp_total kept k v key ∙ ap (λ b. b || eq_by_cmp nat_cmp key k) (h.ids key)
          ∙ ap (λ x. has nat_cmp id rows key || is_this nat_cmp key x) (sym at) ∙ sym (has_more nat_cmp id rows row key);
      hashes = λ key. found_more (λ row. eq_by_cmp name_cmp (hash_of row) key) kept k v new ∙ ap (λ b. b || eq_by_cmp name_cmp (hash_of v) key) (h.hashes key)
          ∙ ap (λ b. has name_cmp hash rows key || b) ((eq_by_cmp_equiv nat_list_cmp_total).symm (hash_of v) key)
          ∙ ap (λ x. has name_cmp hash rows key || is_this name_cmp key x) (sym with_hash) ∙ sym (has_more name_cmp hash rows row key);
    }

pub bare_held : (t : State) → IsBare t → AreHeld t []
bare_held t bare = record {
  tokens = none_held (λ (row : Token). row.hash) token_id token_hash t.tokens bare.tokens;
  codes = none_held (λ (row : ShareCode). row.hash) code_id code_hash t.codes bare.codes;
}

not_kept : {X : Type 0} (x : Option X) (b : Bool) → not (is_some x || b) ≡ true → x ≡ None
not_kept None b h = refl
not_kept (Some v) b h = cc

-- a free row more
pub held_more : (row : Row) (t : State) (rows : List Row) → AreHeld t rows → is_free t row ≡ true → AreHeld (with_row row t) (rows ++ row ∷ [])
held_more (Row.Token k) t rows h free = record {
  tokens = held (λ (row : Token). row.hash) token_id token_hash t.tokens rows (Row.Token k) h.tokens k.id k refl refl (not_kept (get t.tokens k.id) _ free);
  codes = skipped (λ (row : ShareCode). row.hash) code_id code_hash t.codes rows (Row.Token k) h.codes refl refl;
}
held_more (Row.ShareCode c) t rows h free = record {
  tokens = skipped (λ (row : Token). row.hash) token_id token_hash t.tokens rows (Row.ShareCode c) h.tokens refl refl;
  codes = held (λ (row : ShareCode). row.hash) code_id code_hash t.codes rows (Row.ShareCode c) h.codes c.id c refl refl (not_kept (get t.codes c.id) _ free);
}
held_more row t rows h free = record {
  tokens = skipped (λ (row : Token). row.hash) token_id token_hash t.tokens rows row h.tokens refl refl;
  codes = skipped (λ (row : ShareCode). row.hash) code_id code_hash t.codes rows row h.codes refl refl;
}

-- a row is free exactly where it is new among the rows that are held
pub free_is_new : (row : Row) (t : State) (rows : List Row) → AreHeld t rows → is_free t row ≡ is_new rows row
free_is_new (Row.Token k) t rows h = ap not ((λ i. h.tokens.ids k.id i || h.tokens.hashes k.hash i) ∙ or_none _ ∙ or_none _)
free_is_new (Row.ShareCode c) t rows h = λ i. not (h.codes.ids c.id i || h.codes.hashes c.hash i)
free_is_new row t rows h = refl

-- ---- a row that isn't found by a hash may be put

pub other_fits : (row : Row) (t : State) → is_hashed row ≡ false → FitsKey t row
other_fits (Row.Token k) t h = cc
other_fits (Row.ShareCode c) t h = cc
other_fits row t h = tt

pub code_fits : (codes : FinMap nat_cmp ShareCode) (value : ShareCode) → get codes value.id ≡ None → row_with (λ (row : ShareCode). row.hash) value.hash codes ≡ None → FitsCode codes value
code_fits codes value new none = record {
  hash = fits_fresh (λ (row : ShareCode). row.id) (λ (row : ShareCode). row.hash) codes value new none;
  server = λ row at. absurd (some_none (sym at ∙ new));
}
