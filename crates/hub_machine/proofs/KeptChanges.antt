-- The keeper has the rows of the tables after each change of them, if it had them before.
use Rattle.std.proofs.Common.{◌≡◌, ℕ, true, false, Bool, cond, List, [], ◌∷◌, ◌++◌, map, Option, Some, None, Result, Ok, Err, All, inl, inr, refl, sym, ap, subst, ◌∙◌}
use Rattle.std.specs.Prelude.{option_map}
use Rattle.std.proofs.lemmas.List.Elements.{All-head, All-tail}
use Rattle.hub_rows.specs.RowKeys.{key_of}
use Rattle.hub_rows.specs.declared.changes.RowChange.{RowChange}
use Rattle.hub_rows.specs.declared.changes.RowChange.TheVariants.{Put, Remove}
use Rattle.hub_rows.specs.declared.rows.Row.{Row}
use Rattle.hub_rows.specs.declared.rows.RowKey.{RowKey}
use Rattle.hub_tables.specs.Changes.{row_at, row_done, rows_done, puts_of, removals_of}
use Rattle.hub_tables.specs.State.{State}
use Rattle.hub_tables.proofs.RowsAt.{same_or_not, put_same, put_other, gone_same, gone_other}
use Rattle.keeper.specs.declared.keeper.Item.{Item}
use Rattle.keeper.specs.Rows.{Rows as KeptRows, AreSame, is_at, with_text, after_item, after_items}
use Rattle.keeper.proofs.Places.{at_same, at_itself}
use Rattle.record_texts.specs.Items.{item_of, kind_of, key_text, row_text, IsKey, IsValid}
use Rattle.record_texts.proofs.KeyTexts.{one_key, valid_key}
use Rattle.hub_machine.specs.Apply.{change_done}
use Rattle.hub_machine.specs.Batches.{batch_of}
use Rattle.hub_machine.specs.Carry.{RowsDone, RowsKept}
use Rattle.hub_machine.specs.KeptRows.{HasText, Keeps}
use Rattle.hub_machine.specs.Written.{IsOfRows, IsWritten}
use Rattle.hub_machine.specs.declared.change.Change.{Change}
use Rattle.hub_machine.specs.declared.change.Change.TheVariants.{Rows}
use Rattle.hub_machine.specs.declared.planned.Written.{Written}

none_some : {X : Type 0} (x : X) → None ≡ Some x → ⊥
none_some x h = cc

some_one : {X : Type 0} (x y : X) → Some x ≡ Some y → x ≡ y
some_one x y h = cc

not_true : (b : Bool) → (b ≡ true → ⊥) → b ≡ false
not_true true h = absurd (h refl)
not_true false h = refl

false_true : (b : Bool) → b ≡ false → b ≡ true → ⊥
false_true b h k = cc

-- ---- what stands under one key is another, and its text with it

module _ (kept : KeptRows) (t u : State) (key : RowKey) (at : Option Row) (good : IsKey key) (here : row_at u key ≡ at) (others : (q : RowKey) → (q ≡ key → ⊥) → row_at u q ≡ row_at t q) (h : Keeps kept t) where
  abbrev is_its : ℕ → List ℕ → Bool
  is_its kind name = is_at (kind_of key) (key_text key) kind name

  abbrev after : KeptRows
  after = with_text (kind_of key) (key_text key) (option_map row_text at) kept

  -- a row of the tables before and after
  stays : (q : RowKey) (row : Row) → (q ≡ key → ⊥) → row_at u q ≡ Some row → row_at t q ≡ Some row
  stays q row apart there = sym (others q apart) ∙ there

  key_after : (q : RowKey) (row : Row) → row_at u q ≡ Some row → IsKey q
  key_after q row there = elim (same_or_not q key) as (λ _. IsKey q) [
    | inl same ↦ subst IsKey (sym same) good
    | inr apart ↦ h.keys q row (stays q row apart there)
  ]

  not_its : (q : RowKey) → IsKey q → (q ≡ key → ⊥) → is_its (kind_of q) (key_text q) ≡ false
  not_its q valid apart = not_true (is_its (kind_of q) (key_text q)) (λ e. let p = at_same (kind_of key) (key_text key) (kind_of q) (key_text q) e in apart (one_key q key valid good (sym p.0) (sym p.1)))

  -- the text of each row is kept
  text_after : (q : RowKey) (row : Row) → row_at u q ≡ Some row → after (kind_of q) (key_text q) ≡ Some (row_text row)
  text_after q row there = elim (same_or_not q key) as (λ _. after (kind_of q) (key_text q) ≡ Some (row_text row)) [
    | inl same ↦ ap (λ (k : RowKey). after (kind_of k) (key_text k)) same ∙ ap (λ b. cond b (option_map row_text at) (kept (kind_of key) (key_text key))) (at_itself (kind_of key) (key_text key))
        ∙ ap (option_map row_text) (sym here ∙ ap (row_at u) (sym same) ∙ there)
    | inr apart ↦ ap (λ b. cond b (option_map row_text at) (kept (kind_of q) (key_text q))) (not_its q (key_after q row there) apart)
        ∙ (h.exactly (kind_of q) (key_text q) (row_text row)).1 (record { key = q; row = row; there = stays q row apart there; kind = refl; named = refl; says = refl })
  ]

  row_here : (x : Option Row) (kind : ℕ) (name text : List ℕ) → row_at u key ≡ x → (kind_of key ≡ kind) × (key_text key ≡ name) → option_map row_text x ≡ Some text → HasText u kind name text
  row_here None kind name text there same is = absurd (none_some text is)
  row_here (Some row) kind name text there same is = record { key = key; row = row; there = there; kind = same.0; named = same.1; says = some_one (row_text row) text is }

  row_elsewhere : (kind : ℕ) (name text : List ℕ) → is_its kind name ≡ false → HasText t kind name text → HasText u kind name text
  row_elsewhere kind name text e x = record {
    key = x.key;
    row = x.row;
    there = others x.key (λ same. false_true (is_its kind name) e (sym (λ i. is_its (x.kind i) (x.named i)) ∙ ap (λ (k : RowKey). is_its (kind_of k) (key_text k)) same ∙ at_itself (kind_of key) (key_text key))) ∙ x.there;
    kind = x.kind;
    named = x.named;
    says = x.says;
  }

  -- and nothing else
  row_of_text : (kind : ℕ) (name text : List ℕ) → after kind name ≡ Some text → HasText u kind name text
  row_of_text kind name text is = elim (is_its kind name) as (λ b. is_its kind name ≡ b → cond b (option_map row_text at) (kept kind name) ≡ Some text → HasText u kind name text) [
    | true ↦ λ e f. row_here at kind name text here (at_same (kind_of key) (key_text key) kind name e) f
    | false ↦ λ e f. row_elsewhere kind name text e ((h.exactly kind name text).0 f)
  ] refl is

  pub set_kept : Keeps after u
  set_kept = record {
    exactly = λ kind name text. (row_of_text kind name text, λ x. sym (λ i. after (x.kind i) (x.named i)) ∙ text_after x.key x.row x.there ∙ ap Some x.says);
    keys = key_after;
  }

pub row_kept : (r : RowChange) (rows : KeptRows) (t : State) → IsValid r → Keeps rows t → Keeps (after_item (item_of r) rows) (row_done r t)
row_kept (Put row) rows t good h = set_kept rows t (row_done (Put row) t) (key_of row) (Some row) (valid_key row good) (put_same t row) (put_other t row) h
row_kept (Remove key) rows t good h = set_kept rows t (row_done (Remove key) t) key None good (gone_same t key) (gone_other t key) h

-- ---- the rows of a change, one after the other

rows_kept : (rs : List RowChange) (rows : KeptRows) (t : State) → All IsValid rs → Keeps rows t → Keeps (after_items (map item_of rs) rows) (rows_done rs t)
rows_kept [] rows t good h = h
rows_kept (r ∷ rs) rows t good h =
    rows_kept rs (after_item (item_of r) rows) (row_done r t) (All-tail IsValid r rs good) (row_kept r rows t (All-head IsValid r rs good) h)

items_append : (xs ys : List Item) (rows : KeptRows) → after_items (xs ++ ys) rows ≡ after_items ys (after_items xs rows)
items_append [] ys rows = refl
items_append (x ∷ xs) ys rows = items_append xs ys (after_item x rows)

pub change_kept : (rs : List RowChange) (rows : KeptRows) (t : State) → All IsValid (puts_of rs) → All IsValid (removals_of rs) → Keeps rows t
    → Keeps (after_items (batch_of rs) rows) (change_done rs t)
change_kept rs rows t puts removals h =
    subst (λ (kept : KeptRows). Keeps kept (change_done rs t)) (sym (items_append (map item_of (puts_of rs)) (map item_of (removals_of rs)) rows))
    (rows_kept (removals_of rs) (after_items (map item_of (puts_of rs)) rows) (rows_done (puts_of rs) t) removals (rows_kept (puts_of rs) rows t puts h))

-- the same rows
pub same_kept : (kept kept' : KeptRows) (t : State) → AreSame kept' kept → Keeps kept t → Keeps kept' t
same_kept kept kept' t same h = record {
  exactly = λ kind name text. (λ is. (h.exactly kind name text).0 (sym (same kind name) ∙ is), λ x. same kind name ∙ (h.exactly kind name text).1 x);
  keys = h.keys;
}

done_kept : (rows : List RowChange) (kept kept' : KeptRows) (t t' : State) → All IsValid (puts_of rows) → All IsValid (removals_of rows)
    → t' ≡ change_done rows t → AreSame kept' (after_items (batch_of rows) kept) → Keeps kept t → Keeps kept' t'
done_kept rows kept kept' t t' puts removals done same h =
    subst (Keeps kept') (sym done) (same_kept (after_items (batch_of rows) kept) kept' (change_done rows t) same (change_kept rows kept t puts removals h))

stays_kept : (kept kept' : KeptRows) (t t' : State) → t' ≡ t → AreSame kept' kept → Keeps kept t → Keeps kept' t'
stays_kept kept kept' t t' stays same h = subst (Keeps kept') (sym stays) (same_kept kept kept' t same h)

-- carried out, or all as before
pub carried_kept : {E : Type 0} (rows : List RowChange) (r : Result Bool E) (kept kept' : KeptRows) (t t' : State) → All IsValid (puts_of rows) → All IsValid (removals_of rows)
    → RowsDone rows r t t' → RowsKept (batch_of rows) r kept kept' → Keeps kept t → Keeps kept' t'
carried_kept rows (Ok true) kept kept' t t' puts removals done same h = done_kept rows kept kept' t t' puts removals done same h
carried_kept rows (Ok false) kept kept' t t' puts removals done same h = stays_kept kept kept' t t' done same h
carried_kept rows (Err e) kept kept' t t' puts removals done same h = stays_kept kept kept' t t' done same h

-- the same of a batch that was written
pub written_kept : {E : Type 0} (rows told : List RowChange) (w : Written) (r : Result Bool E) (kept kept' : KeptRows) (t t' : State) → told ≡ rows → IsOfRows rows w
    → RowsDone told r t t' → RowsKept w.batch r kept kept' → Keeps kept t → Keeps kept' t'
written_kept rows told w r kept kept' t t' same h done items keeps =
    carried_kept rows r kept kept' t t' h.puts h.removals (subst (λ (l : List RowChange). RowsDone l r t t') same done) (subst (λ (b : List Item). RowsKept b r kept kept') h.batch items) keeps

-- the rows of a change that was written
pub of_change : (c : Change) (w : Written) (rows : List RowChange) → c ≡ Rows rows → IsWritten c w → IsOfRows rows w
of_change c w rows e h = subst (λ (x : Change). IsWritten x w) e h

-- the same of a batch and rows that are told elsewhere
pub batch_kept : {E : Type 0} (rows told : List RowChange) (items : List Item) (r : Result Bool E) (kept kept' : KeptRows) (t t' : State) → told ≡ rows → items ≡ batch_of rows
    → All IsValid (puts_of rows) → All IsValid (removals_of rows) → RowsDone told r t t' → RowsKept items r kept kept' → Keeps kept t → Keeps kept' t'
batch_kept rows told items r kept kept' t t' same e puts removals done h keeps =
    carried_kept rows r kept kept' t t' puts removals (subst (λ (l : List RowChange). RowsDone l r t t') same done) (subst (λ (b : List Item). RowsKept b r kept kept') e h) keeps
