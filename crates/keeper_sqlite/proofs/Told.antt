-- What is done to a store that this keeper made, in rows.
use Rattle.std.proofs.Common.{◌≡◌, inl, inr, ℕ, ◌≤◌, arith, Bool, true, false, not, cond, IsTrue, List, [], ◌∷◌, map, Option, Some, None, IfSome, IsSome, IsSomeAnd, Result, Ok, Err, OnOk, IfOk, OnErr, refl, sym, ap, subst, ◌∙◌}
use Rattle.keeper.specs.Rows.{Rows, AreSame, Lists, with_text, no_rows, after_item, after_items, is_at}
use Rattle.keeper.specs.declared.keeper.Item.{Item}
use Rattle.keeper.specs.declared.keeper.Item.TheVariants.{Put, Delete}
use Rattle.keeper.specs.declared.keeper.Row.{Row as Kept}
use Rattle.std.specs.List.Sorted.{IsPermutation, IsStrictlySortedBy}
use Rattle.sqlite.specs.declared.error.Error.{Error}
use Rattle.sqlite.specs.Effect.{Database}
use Rattle.sqlite.specs.Given.{IsPlain}
use Rattle.sqlite.specs.Held.{Held, state}
use Rattle.sqlite.specs.Listing.{understood}
use Rattle.sqlite.specs.Order.{Row}
use Rattle.sqlite.specs.Schema.{Schema}
use Rattle.sqlite.specs.State.{State, HasCleanDisk, Executes}
use Rattle.sqlite.specs.Store.{Ghosts}
use Rattle.sqlite.specs.View.{doubt}
use Rattle.row_table.specs.Stored.{rows_of, whole, IsRowStore, HasRows}
use Rattle.row_table.specs.Tables.{no_schema, store_schema}
use Rattle.row_table.specs.Texts.{number_text, select_text, Leaves}
use Rattle.row_table.specs.Shown.{shown, IsInOrder}
use Rattle.row_table.proofs.Answered.{shown_again, front_shown, lists_whole}
use Rattle.row_table.proofs.Asked.{query_same}
use Rattle.row_table.proofs.Deleted.{deletes_row}
use Rattle.row_table.proofs.Placed.{puts_row}
use Rattle.row_table.proofs.Made.{store_made, store_raised}
use Rattle.row_table.proofs.Making.{number_plain}
use Rattle.row_table.proofs.Upsert.{select_plain}
use Rattle.row_table.proofs.Lists.{lists}
use Rattle.row_table.proofs.Loaded.{all_listed}
use Rattle.keeper_sqlite.specs.declared.store.Form.{Form}
use Rattle.keeper_sqlite.specs.declared.store.Form.TheVariants.{Old, New}
use Rattle.keeper_sqlite.specs.Own.{AreAll, IsOwnStore, rows_in, IsOwned, told_rows, Stands}
use Rattle.keeper_sqlite.specs.Statements.{text_of, values_of, HasNoTables, AreDone, IsOfForm, IsRaised, IsKnown, IsRenewed, IsCommitted, IsListed, IsLoaded}

same_texts : (kind : ℕ) (key : List ℕ) (text : Option (List ℕ)) (a b : Rows) → AreSame a b → AreSame (with_text kind key text a) (with_text kind key text b)
same_texts kind key text a b same k t = ap (cond (is_at kind key k t) text) (same k t)

same_item : (item : Item) (a b : Rows) → AreSame a b → AreSame (after_item item a) (after_item item b)
same_item (Put row) a b same = same_texts row.kind row.key (Some row.text) a b same
same_item (Delete kind key) a b same = same_texts kind key None a b same

then_rows : (db : Database) (a b : Rows) → HasRows db a → AreSame a b → HasRows db b
then_rows db a b h same = (h.0, λ kind key. h.1 kind key ∙ same kind key)

abbrev item_rows : Item → State → Rows
item_rows item s = after_item item (rows_of (s.now.trees 0))

-- a store of this schema has no tables only where it is empty
pub never_empty : (schema : Schema) → schema ≡ store_schema → HasNoTables schema → ⊥
never_empty schema is none = let e : store_schema.tables ≡ [] = ap (λ (s : Schema). s.tables) (sym is) ∙ none.0 in cc

empty_has_none : (schema : Schema) → schema ≡ no_schema → HasNoTables schema
empty_has_none schema is = (ap (λ (s : Schema). s.tables) is, ap (λ (s : Schema). s.views) is)

pub rows_of_empty : (db : Database) → db.schema ≡ no_schema → rows_in db ≡ no_rows
rows_of_empty db is = ap (λ (s : Schema). rows_in (record db { schema = s })) is

pub rows_of_store : (db : Database) → db.schema ≡ store_schema → rows_in db ≡ rows_of (db.trees 0)
rows_of_store db is = ap (λ (s : Schema). rows_in (record db { schema = s })) is

module _ {S : Type 0} (g : Ghosts S) where
  item_done : (item : Item) (old new : Held S) (count : ℕ) → IsRowStore (state g old).now → Executes (text_of item) (values_of item) (state g old) (state g new) (Ok count) → HasRows (state g new).now (item_rows item (state g old))
  item_done (Put row) old new count store h = puts_row (state g old) (state g new) row.kind row.key row.text count store h
  item_done (Delete kind key) old new count store h = deletes_row (state g old) (state g new) kind key count store h

  all_done : (items : List Item) (old new : Held S) (rows : Rows) → HasRows (state g old).now rows → AreDone g items old new → HasRows (state g new).now (after_items items rows)
  all_done [] old new rows has h = subst (λ s. HasRows (state g s).now rows) (sym h) has
  all_done (item ∷ items) old new rows has h =
      let first = then_rows (state g h.0).now (item_rows item (state g old)) (after_item item rows) (item_done item old h.0 h.1 has.0 h.2) (same_item item _ rows has.1) in
      all_done items h.0 new (after_item item rows) first h.3

  raised_rows : (form : Form) (found new : Held S) → IsRowStore (state g found).now → IsRaised g form found new → HasRows (state g new).now (rows_of ((state g found).now.trees 0))
  raised_rows Old found new store h = store_raised g found new store h
  raised_rows New found new store h = subst (λ s. HasRows (state g s).now (rows_of ((state g found).now.trees 0))) (sym h) (store, λ kind key. refl)

  -- asking for the number leaves the store
  found_same : (form : Form) (old found : Held S) → (state g old).now.schema ≡ store_schema → IsOfForm g form old found → (state g found).now ≡ (state g old).now
  found_same form old found is h =
      (query_same number_text (state g old) (state g found) [] h.row (subst (λ s. IsPlain (understood s number_text)) (sym is) number_plain) h.queried).0.now_is

  known_rows : (old begun : Held S) → IsRowStore (state g old).now → IsKnown g old begun → HasRows (state g begun).now (rows_of ((state g old).now.trees 0))
  known_rows old begun store h =
      let same = found_same h.form old h.found store.0 h.is_of in
      subst (λ (d : Database). HasRows (state g begun).now (rows_of (d.trees 0))) same (raised_rows h.form h.found begun (subst IsRowStore (sym same) store) h.raised)

  renewed_rows : (is_empty : Bool) (old begun : Held S) → IsOwnStore (state g old).now → (IsTrue is_empty → HasNoTables (state g old).now.schema) → (HasNoTables (state g old).now.schema → IsTrue is_empty)
      → IsRenewed g is_empty (record old { in_transaction = true }) begun → HasRows (state g begun).now (rows_in (state g old).now)
  renewed_rows true old begun (inl is) empty only h =
      subst (HasRows (state g begun).now) (sym (rows_of_empty (state g old).now is)) (store_made g (record old { in_transaction = true }) begun is h)
  renewed_rows true old begun (inr store) empty only h = absurd (never_empty _ store.0 (empty refl))
  renewed_rows false old begun (inl is) empty only h = absurd (let e = only (empty_has_none _ is) in cc)
  renewed_rows false old begun (inr store) empty only h =
      subst (HasRows (state g begun).now) (sym (rows_of_store (state g old).now store.0)) (known_rows (record old { in_transaction = true }) begun store h)

  -- a batch that was done gives its rows
  pub batch_rows : (items : List Item) (old new : Held S) → IsOwnStore (state g old).now → IsCommitted g items old new → HasRows (state g new).now (after_items items (rows_in (state g old).now))
  batch_rows items old new own h =
      let begun = renewed_rows h.is_empty old h.begun own h.empty h.only h.renewed in
      let last = all_done items h.begun h.last (rows_in (state g old).now) begun h.done in
      subst (λ d. HasRows d (after_items items (rows_in (state g old).now))) (sym h.now) last

  pub told_after : (items : List Item) (old new : Held S) → IsOwnStore (state g old).now → IsCommitted g items old new → AreSame (told_rows g new) (after_items items (told_rows g old))
  told_after items old new own h =
      let all = batch_rows items old new own h in
      subst (λ r. AreSame r (after_items items (told_rows g old))) (sym (rows_of_store (state g new).now all.0.0)) all.1

  listed_rows : (old new : Held S) (all : List Kept) → IsRowStore (state g old).now → IsListed g old new all → Lists (rows_of ((state g old).now.trees 0)) all
  listed_rows old new all store h =
      let same = found_same h.form old h.found store.0 h.is_of in
      let there = subst IsRowStore (sym same) store in
      subst (λ (d : Database). Lists (rows_of (d.trees 0)) all) same
      (all_listed ((state g h.found).now.trees 0) h.rows all there.1 (lists (state g h.found) (state g new) h.rows there.0 h.selected) h.same)

  nothing_listed : (all : List Kept) → all ≡ [] → Lists no_rows all
  unfolding IsStrictlySortedBy
  nothing_listed [] is = record { in_order = tt; same = λ kind key. refl }
  nothing_listed (row ∷ all) is = absurd cc

  -- the rows that are loaded are those of the store, in order
  pub loaded_rows : (old new : Held S) (all : List Kept) → IsOwnStore (state g old).now → IsLoaded g old new all → Lists (told_rows g old) all
  loaded_rows old new all (inl is) (inl h) = subst (λ r. Lists r all) (sym (rows_of_empty (state g old).now is)) (nothing_listed all h.1)
  loaded_rows old new all (inl is) (inr h) = absurd (h.0 (empty_has_none _ is))
  loaded_rows old new all (inr store) (inl h) = absurd (never_empty _ store.0 h.0)
  loaded_rows old new all (inr store) (inr h) = subst (λ r. Lists r all) (sym (rows_of_store (state g old).now store.0)) (listed_rows old new all store h.1)

  store_there : (h : Held S) → IsOwned g h → HasCleanDisk (state g h) → IsTrue (state g h).is_open → ¬ HasNoTables (state g h).now.schema → IsRowStore (state g h).now
  store_there h own clean open_now some = elim (own.store clean open_now) [ inl is ↦ absurd (some (empty_has_none _ is)) | inr store ↦ store ]

  module _ (old found : Held S) (own : IsOwned g old) (clean : HasCleanDisk (state g old)) (some : ¬ HasNoTables (state g old).now.schema)
      (settled : IsTrue (state g old).is_open → (state g old).now ≡ (state g old).committed) (asked : Leaves number_text (state g old) (state g found)) where
    asked_stands : IsTrue (state g found).is_open → IsTrue (state g old).is_open × ((state g found).now ≡ (state g old).now) × ((state g found).now ≡ (state g found).committed)
    asked_stands open_now =
        let was = asked open_now in
        let still = settled was.0 in
        let store = store_there old own clean was.0 some in
        let same = was.1 (subst (λ s. IsPlain (understood s number_text)) (sym store.0) number_plain) still in
        (was.0, same.0, same.0 ∙ still ∙ sym same.1)

    -- where the number was asked for
    pub number_stands : Stands g old found
    number_stands open_now = let all = asked_stands open_now in (all.0, all.1)

    -- and then the rows
    pub rows_stand : (new : Held S) → Leaves select_text (state g found) (state g new) → Stands g old new
    rows_stand new left open_now =
        let was = left open_now in
        let before = asked_stands was.0 in
        let store = store_there old own clean before.0 some in
        let schema : (state g found).now.schema ≡ store_schema = ap (λ (d : Database). d.schema) before.1 ∙ store.0 in
        let same = was.1 (subst (λ s. IsPlain (understood s select_text)) (sym schema) select_plain) before.2 in
        (before.0, same.0 ∙ before.1)

  -- rows that were read with their rowids, and put in order, are all rows of the store
  pub read_all : {V W : Type 0} (items : V → List Row) (kept : W → List Kept) (old new : Held S) (rows : Option V) (read : Option W)
      → (HasCleanDisk (state g new) → IsTrue (state g new).is_open → IsTrue (state g old).is_open × ((state g new).now ≡ (state g old).now))
      → (HasCleanDisk (state g new) → IsTrue (state g new).is_open → IsSome rows → IsRowStore (state g new).now)
      → (HasCleanDisk (state g new) → IfSome rows (λ v. IsPermutation (map whole ((state g old).now.trees 0)) (items v)))
      → IfSome read (λ all. IsSomeAnd rows (λ v. IsInOrder (items v) (kept all))) → IfSome read (λ all. AreAll g new (kept all))
  read_all items kept old new rows None stands known same order = tt
  read_all items kept old new None (Some all) stands known same order = absurd order
  read_all items kept old new (Some v) (Some all) stands known same order = λ clean open_now.
      let store = known clean open_now refl in
      let rows = subst (λ (d : Database). IsPermutation (map whole (d.trees 0)) (items v)) (sym (stands clean open_now).1) (same clean) in
      (store, subst (λ r. Lists r (kept all)) (sym (rows_of_store (state g new).now store.0)) (lists_whole ((state g new).now.trees 0) (items v) (kept all) store.1 rows order))

  -- rows that were read are what the selection would give
  pub loaded_again : (form : Form) (old new : Held S) (all : List Kept) → IsTrue (state g new).is_open → IsRowStore (state g old).now → Lists (told_rows g old) all → IsOfForm g form old new
      → IsLoaded g old new all
  loaded_again form old new all open_now store listing is_of =
      let same = found_same form old new store.0 is_of in
      let rows = subst (λ r. Lists r all) (rows_of_store (state g old).now store.0) listing in
      inr (
        never_empty _ store.0,
        record {
          form = form;
          found = new;
          is_of = is_of;
          rows = map shown all;
          selected = shown_again (state g new) all open_now (subst IsRowStore (sym same) store) (subst (λ (d : Database). Lists (rows_of (d.trees 0)) all) (sym same) rows);
          same = sym (front_shown all);
        },
      )

  -- asking for the number leaves a store that has tables
  pub again_stands : (old found : Held S) → IsOwned g old → HasCleanDisk (state g old) → (IsTrue (state g old).is_open → IsRowStore (state g old).now)
      → (IsTrue (state g old).is_open → (state g old).now ≡ (state g old).committed) → Leaves number_text (state g old) (state g found) → Stands g old found
  again_stands old found own clean store settled asked open_now =
      let was = (asked open_now).0 in
      number_stands old found own clean (never_empty _ (store was).0) settled asked open_now

  -- what is loaded from a store of one's own
  pub loaded_listed : {V : Type 0} (old new : Held S) (items : V → List Kept) (r : Result V Error) → IsOwned g old → HasCleanDisk (state g old) → IsTrue (state g old).is_open
      → IfOk r (λ all. IsLoaded g old new (items all)) → IfOk r (λ all. Lists (told_rows g old) (items all))
  loaded_listed old new items (Ok all) own clean open_now h = loaded_rows old new (items all) (own.store clean open_now) h
  loaded_listed old new items (Err e) own clean open_now h = tt

  -- outside a transaction the last commit is what is seen
  pub settled_by : (h : Held S) (answer : Bool) → IsOwned g h → answer ≡ not h.in_transaction → (IsTrue answer → IsTrue (state g h).is_open → (state g h).now ≡ (state g h).committed)
      → IsTrue (state g h).is_open → (state g h).now ≡ (state g h).committed
  settled_by h answer own is settled = settled (is ∙ ap not own.autocommit)

  -- a store without tables has no rows
  pub empty_listed : (h : Held S) → IsOwnStore (state g h).now → HasNoTables (state g h).now.schema → Lists (told_rows g h) []
  empty_listed h (inl is) none = subst (λ r. Lists r []) (sym (rows_of_empty (state g h).now is)) (nothing_listed [] refl)
  empty_listed h (inr store) none = absurd (never_empty _ store.0 none)

  pub fresh_owned : (h : Held S) → h.in_transaction ≡ false → h.schema ≡ no_schema → IsOwned g h
  fresh_owned h apart empty = record { autocommit = apart; store = λ clean open_now. inl empty }

  -- a load leaves the store one's own
  pub loaded_owned : (old new : Held S) → IsOwned g old → (old.in_transaction ≡ false → new.in_transaction ≡ false) → doubt (state g old).is_clean ≤ doubt (state g new).is_clean
      → (HasCleanDisk (state g new) → Stands g old new) → IsOwned g new
  loaded_owned old new own ended cleaner stands = record {
    autocommit = ended own.autocommit;
    store = λ clean open_now.
        let same = stands clean open_now in
        subst IsOwnStore (sym same.1) (own.store (omega (arith, cleaner, clean)) same.0);
  }

  module _ (items : List Item) (old new : Held S) (own : IsOwned g old) (cleaner : doubt (state g old).is_clean ≤ doubt (state g new).is_clean)
      (was_open : HasCleanDisk (state g new) → IsTrue (state g new).is_open → IsTrue (state g old).is_open) where
    -- and so does a commit
    pub committed_owned : (r : Result (Unit {0}) Error) → (old.in_transaction ≡ false → new.in_transaction ≡ false) → (HasCleanDisk (state g new) → OnOk r (IsCommitted g items old new))
        → (HasCleanDisk (state g new) → IsTrue (state g new).is_open → OnErr r (((state g new).now ≡ (state g old).now) × ((state g new).committed ≡ (state g old).committed))) → IsOwned g new
    committed_owned (Ok done) ended did undid = record {
      autocommit = ended own.autocommit;
      store = λ clean open_now. inr (batch_rows items old new (own.store (omega (arith, cleaner, clean)) (was_open clean open_now)) (did clean)).0;
    }
    committed_owned (Err e) ended did undid = record {
      autocommit = ended own.autocommit;
      store = λ clean open_now. subst IsOwnStore (sym (undid clean open_now).0) (own.store (omega (arith, cleaner, clean)) (was_open clean open_now));
    }

    pub committed_told : (r : Result (Unit {0}) Error) → HasCleanDisk (state g new) → IsTrue (state g new).is_open → OnOk r (IsCommitted g items old new)
        → OnOk r (AreSame (told_rows g new) (after_items items (told_rows g old)))
    committed_told (Ok done) clean open_now did = told_after items old new (own.store (omega (arith, cleaner, clean)) (was_open clean open_now)) did
    committed_told (Err e) clean open_now did = tt

  pub same_told : (old new : Held S) → (state g new).now ≡ (state g old).now → AreSame (told_rows g new) (told_rows g old)
  same_told old new is kind key = ap (λ (d : Database). rows_in d kind key) is

  pub undone_told : (old new : Held S) (r : Result (Unit {0}) Error) → OnErr r (((state g new).now ≡ (state g old).now) × ((state g new).committed ≡ (state g old).committed)) → OnErr r (AreSame (told_rows g new) (told_rows g old))
  undone_told old new (Ok done) h = tt
  undone_told old new (Err e) h = same_told old new h.0
