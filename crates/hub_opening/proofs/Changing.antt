-- What a put leaves a keeper with.
use Rattle.std.proofs.Common.{◌≡◌, ℕ, Bool, true, false, cond, List, [], ◌∷◌, ◌++◌, Option, Some, None, refl, sym, ap, subst, ◌∙◌}
use Rattle.hub_rows.specs.RowKeys.{key_of}
use Rattle.hub_rows.specs.declared.changes.RowChange.{RowChange}
use Rattle.hub_rows.specs.declared.changes.RowChange.TheVariants.{Put}
use Rattle.hub_rows.specs.declared.rows.Row.{Row}
use Rattle.hub_tables.specs.Changes.{row_at, with_row, put_or_remove, way_back}
use Rattle.hub_tables.specs.State.{State}
use Rattle.keeper.specs.declared.keeper.Item.{Item}
use Rattle.keeper.specs.declared.keeper.Item.TheVariants as Item
use Rattle.keeper.specs.declared.keeper.Row.{Row as KeptRow}
use Rattle.keeper.specs.Rows.{Rows, AreSame, is_at, after_item, after_items}
use Rattle.keeper.proofs.Places.{at_same}
use Rattle.record_texts.specs.Items.{item_of, kind_of, key_text, row_text, IsRow, IsValid}
use Rattle.kept_rows.specs.Reading.{kept_as}
use Rattle.hub_machine.specs.KeptRows.{Keeps}
use Rattle.hub_machine.proofs.KeptChanges.{row_kept, same_kept}

one_more : (items : List Item) (item : Item) (has : Rows) → after_items (items ++ item ∷ []) has ≡ after_item item (after_items items has)
one_more [] item has = refl
one_more (x ∷ items) item has = one_more items item (after_item x has)

-- the keeper is told of the put
pub told : (row : Row) (t : State) (items : List Item) (has : Rows) → IsRow row → Keeps (after_items items has) t
    → Keeps (after_items (items ++ item_of (Put row) ∷ []) has) (with_row row t)
told row t items has valid h =
    subst (λ (r : Rows). Keeps r (with_row row t)) (sym (one_more items (item_of (Put row)) has)) (row_kept (Put row) (after_items items has) t valid h)

-- ---- it has the text already

same_item : (a b : KeptRow) → Item.Put a ≡ Item.Put b → a ≡ b
same_item a b e = cc

removed_put : (number : ℕ) (name : List ℕ) (row : KeptRow) → Item.Delete number name ≡ Item.Put row → ⊥
removed_put number name row e = cc

same_there : (has : Rows) (row : KeptRow) → has row.kind row.key ≡ Some row.text → AreSame has (after_item (Item.Put row) has)
same_there has row e kind name =
    elim (is_at row.kind row.key kind name) as (λ b. is_at row.kind row.key kind name ≡ b → has kind name ≡ cond b (Some row.text) (has kind name)) [
      | true ↦ λ at. let p = at_same row.kind row.key kind name at in sym (λ i. has (p.0 i) (p.1 i)) ∙ e
      | false ↦ λ at. refl
    ] refl

pub untold : (row : Row) (t : State) (has : Rows) → IsRow row → item_of (way_back t (Put row)) ≡ item_of (Put row) → Keeps has t → Keeps has (with_row row t)
untold row t has valid same h = by (row_at t (key_of row)) refl same
  where
    by : (at : Option Row) → row_at t (key_of row) ≡ at → item_of (put_or_remove (key_of row) at) ≡ item_of (Put row) → Keeps has (with_row row t)
    by None e is = absurd (removed_put (kind_of (key_of row)) (key_text (key_of row)) (kept_as row) is)
    by (Some r) e is =
        let one : kept_as r ≡ kept_as row = same_item (kept_as r) (kept_as row) is in
        let text = (h.exactly (kind_of (key_of row)) (key_text (key_of row)) (row_text r)).1 (record { key = key_of row; row = r; there = e; kind = refl; named = refl; says = refl })
        ∙ ap (λ (k : KeptRow). Some k.text) one in
        same_kept (after_item (item_of (Put row)) has) has (with_row row t) (same_there has (kept_as row) text) (row_kept (Put row) has t valid h)

-- ---- the same of a change that is a put

pub told_of : (put : RowChange) (t : State) (items later : List Item) (item : Item) → IsValid put → item ≡ item_of put → later ≡ items ++ item ∷ []
    → (row : Row) → put ≡ Put row → (has : Rows) → Keeps (after_items items has) t → Keeps (after_items later has) (with_row row t)
told_of put t items later item valid is more row e has h =
    subst (λ (l : List Item). Keeps (after_items l has) (with_row row t)) (sym (more ∙ ap (λ i. items ++ i ∷ []) (is ∙ ap item_of e)))
    (told row t items has (subst IsValid e valid) h)

pub untold_of : (put : RowChange) (t : State) (items : List Item) (item kept : Item) → IsValid put → item ≡ item_of put → kept ≡ item_of (way_back t put) → kept ≡ item
    → (row : Row) → put ≡ Put row → (has : Rows) → Keeps (after_items items has) t → Keeps (after_items items has) (with_row row t)
untold_of put t items item kept valid is was same row e has h =
    untold row t (after_items items has) (subst IsValid e valid) (sym (was ∙ ap (λ p. item_of (way_back t p)) e) ∙ same ∙ is ∙ ap item_of e) h
