-- The rows of a tree's places, one after the other.
use Rattle.std.proofs.Common.{◌≡◌, ℕ, Bool, true, false, cond, List, [], ◌∷◌, ◌++◌, map, Option, Some, None, refl, sym, ap, ◌∙◌, subst}
use Rattle.std.specs.BTreeMap.{BTreeMap, IsOrdered, is_at}
use Rattle.std.specs.List.{AllByRecursion}
use Rattle.std.specs.List.Sorted.{IsStrictlySortedBy}
use Rattle.std.specs.Map.{keys_of, lookup}
use Rattle.std.specs.Ordering.{is_eq}
use Rattle.std.specs.declared.cmp.Ordering.TheVariants.{Less}
use Rattle.std.proofs.lemmas.Map.Keys.{sorted_head, sorted_tail}
use Rattle.keyed_rows.specs.Rows.{map_of}
use Rattle.keyed_rows.proofs.Finite.{get_row}
use Rattle.keeper.specs.contracts.row_key.RowKeyOrd.TheImpl.Laws as order
use Rattle.keeper.specs.declared.keeper.Item.TheVariants.{Put}
use Rattle.keeper.specs.declared.keeper.Row.{Row}
use Rattle.keeper.specs.declared.row_key.RowKey.{RowKey}
use Rattle.keeper.specs.RowOrder.{key_cmp}
use Rattle.keeper.specs.Rows.{Rows, Lists, row_cmp, no_rows, after_items, with_text}
use Rattle.keeper.specs.Rows as rows
use Rattle.keeper.specs.Held.{held, text_in, row_at, rows_in}
use Rattle.keeper.proofs.Places.{same_test, tied_key}

abbrev Places : Type 0
Places = List (RowKey × Option (List ℕ))

-- the text of a place that was found, or else the other
abbrev or_else : Option (Option (List ℕ)) → Option (List ℕ) → Option (List ℕ)
or_else None other = other
or_else (Some None) other = other
or_else (Some (Some text)) other = Some text

none_after : (at : RowKey) (es : Places) → AllByRecursion (λ y. key_cmp at y ≡ Less) (keys_of es) → lookup (is_at (key_cmp at)) es ≡ None
none_after at [] h = refl
none_after at (e ∷ es) h = rw h.0 (none_after at es h.1)

bare_in_front : (b : Bool) (x : Option (Option (List ℕ))) (m : Option (List ℕ)) → (b ≡ true → x ≡ None) → or_else x m ≡ or_else (cond b (Some None) x) m
bare_in_front true x m h = ap (λ y. or_else y m) (h refl)
bare_in_front false x m h = refl

text_in_front : (b : Bool) (x : Option (Option (List ℕ))) (t : List ℕ) (m : Option (List ℕ)) → (b ≡ true → x ≡ None) → or_else x (cond b (Some t) m) ≡ or_else (cond b (Some (Some t)) x) m
text_in_front true x t m h = ap (λ y. or_else y (Some t)) (h refl)
text_in_front false x t m h = refl

module _ (kind : ℕ) (key : List ℕ) where
  abbrev here : RowKey
  here = record { kind = kind; key = key }

  none_again : (at : RowKey) (es : Places) → AllByRecursion (λ y. key_cmp at y ≡ Less) (keys_of es) → is_eq (key_cmp here at) ≡ true → lookup (is_at (key_cmp here)) es ≡ None
  none_again at es h e = subst (λ q. lookup (is_at (key_cmp q)) es ≡ None) (sym (tied_key here at e)) (none_after at es h)

  one_place : (at : RowKey) (text : Option (List ℕ)) (es : Places) → AllByRecursion (λ y. key_cmp at y ≡ Less) (keys_of es)
      → ((m : Rows) → after_items (map Put (rows_in es)) m kind key ≡ or_else (lookup (is_at (key_cmp here)) es) (m kind key))
      → (m : Rows) → after_items (map Put (row_at at text ++ rows_in es)) m kind key ≡ or_else (cond (is_eq (key_cmp here at)) (Some text) (lookup (is_at (key_cmp here)) es)) (m kind key)
  one_place at None es h more m = more m ∙ bare_in_front (is_eq (key_cmp here at)) _ (m kind key) (none_again at es h)
  one_place at (Some text) es h more m =
      more (with_text at.kind at.key (Some text) m)
      ∙ ap (λ b. or_else (lookup (is_at (key_cmp here)) es) (cond b (Some text) (m kind key))) (sym (same_test kind key at))
      ∙ text_in_front (is_eq (key_cmp here at)) _ text (m kind key) (none_again at es h)

  puts_at : (es : Places) → IsStrictlySortedBy key_cmp (keys_of es) → (m : Rows) → after_items (map Put (rows_in es)) m kind key ≡ or_else (lookup (is_at (key_cmp here)) es) (m kind key)
  puts_at [] s m = refl
  puts_at (e ∷ es) s m = one_place e.0 e.1 es (sorted_head key_cmp e.0 (keys_of es) s) (puts_at es (sorted_tail key_cmp e.0 (keys_of es) s)) m

or_none : (x : Option (Option (List ℕ))) → or_else x None ≡ text_in x
or_none None = refl
or_none (Some None) = refl
or_none (Some (Some t)) = refl

before_row : (row : Row) (at : RowKey) (text : Option (List ℕ)) (rest : List Row) → key_cmp (record { kind = row.kind; key = row.key }) at ≡ Less
    → AllByRecursion (λ r. row_cmp row r ≡ Less) rest → AllByRecursion (λ r. row_cmp row r ≡ Less) (row_at at text ++ rest)
before_row row at None rest h more = more
before_row row at (Some text) rest h more = (h, more)

before_all : (row : Row) (es : Places) → AllByRecursion (λ y. key_cmp (record { kind = row.kind; key = row.key }) y ≡ Less) (keys_of es) → AllByRecursion (λ r. row_cmp row r ≡ Less) (rows_in es)
before_all row [] h = tt
before_all row (e ∷ es) h = before_row row e.0 e.1 (rows_in es) h.0 (before_all row es h.1)

sorted_more : (at : RowKey) (text : Option (List ℕ)) (es : Places) → AllByRecursion (λ y. key_cmp at y ≡ Less) (keys_of es) → IsStrictlySortedBy row_cmp (rows_in es) → IsStrictlySortedBy row_cmp (row_at at text ++ rows_in es)
unfolding IsStrictlySortedBy
sorted_more at None es h more = more
sorted_more at (Some text) es h more = (before_all (record { kind = at.kind; key = at.key; text = text }) es h, more)

sorted_rows : (es : Places) → IsStrictlySortedBy key_cmp (keys_of es) → IsStrictlySortedBy row_cmp (rows_in es)
unfolding IsStrictlySortedBy
sorted_rows [] s = tt
sorted_rows (e ∷ es) s = sorted_more e.0 e.1 es s.0 (sorted_rows es s.1)

-- the rows of all places are the rows of the tree
pub places_listed : (m : BTreeMap RowKey (Option (List ℕ))) → IsOrdered key_cmp m → (all : List Row) → all ≡ rows_in m.entries → Lists (held (map_of key_cmp m)) all
places_listed m ordered all e = record {
  in_order = rw e (sorted_rows m.entries ordered);
  same = λ kind key.
      ap (λ xs. rows.rows_of xs kind key) e
      ∙ puts_at kind key m.entries ordered no_rows
      ∙ or_none _
      ∙ ap text_in (sym (get_row order.total-law m (record { kind = kind; key = key })));
}
