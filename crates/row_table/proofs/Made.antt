-- What the making of the tables, and a new number, do to the rows.
use Rattle.std.proofs.Common.{◌≡◌, ◌≢◌, ◌⊎◌, inl, inr, ℕ, zero, suc, map, Bool, true, false, List, [], ◌∷◌, append-nil, length, take, drop, Some, None, Result, Ok, Err, OnOk, refl, sym, ap, subst, subst₂, ◌∙◌, arith}
use Rattle.std.proofs.lemmas.Bool.{cases_Bool}
use Rattle.keeper.specs.Rows.{no_rows}
use Rattle.sqlite.specs.Store.{Ghosts}
use Rattle.sqlite.specs.Batch.{first_len, RunInTurn, ExecutesAllInside}
use Rattle.sqlite.specs.Change.{created, next_tree, KeepsRows}
use Rattle.sqlite.specs.Clock.{timed}
use Rattle.sqlite.specs.Command.{Command}
use Rattle.sqlite.specs.Command.TheVariants.{CreateTable, Insert, Update}
use Rattle.sqlite.specs.Compile.{table_defined_by}
use Rattle.sqlite.specs.Does.{Tally, Does, lacks_sequence}
use Rattle.sqlite.specs.Edit.{edit_of, id_in}
use Rattle.sqlite.specs.Effect.{Database}
use Rattle.sqlite.specs.Held.{Held, state}
use Rattle.sqlite.specs.Listing.{understood}
use Rattle.sqlite.specs.Order.{Row}
use Rattle.sqlite.specs.Rows.{Written}
use Rattle.sqlite.specs.Rowids.TheVariants.{Chosen, Given}
use Rattle.sqlite.specs.Schema.{Schema}
use Rattle.sqlite.specs.Source.TheVariants.{Values}
use Rattle.sqlite.specs.State.{State, mode_of, shows_rows, text_of, Runs, Writes, ExecutesIn}
use Rattle.sqlite.specs.Table.{Table}
use Rattle.sqlite.specs.Tree.{Trees, rowid}
use Rattle.sqlite.specs.declared.error.Error.{Error}
use Rattle.sqlite.proofs.Callers.{IsPlain, command_of, statement_of, one_step}
use Rattle.row_table.specs.Stored.{rows_of, IsRowTable, IsRowStore, HasRows}
use Rattle.row_table.specs.Tables.{no_schema, row_schema, store_schema, row_table, meta_table}
use Rattle.row_table.specs.Texts.{make_text, raise_text}
use Rattle.row_table.proofs.Making.{first_text, second_text, third_text, row_text, meta_text, after_first, first_is, first_plain, second_is, second_plain, form_terms, third_is, third_plain, raised, raise_is, raise_plain, cut_is, cut_third, cut_raise, is_some_text, some_second}

went : {B E R : Type 0} {b : B} {Stops : E → Type 0} → ((stop : E) × Stops stop × (Ok b ≡ Err stop)) ⊎ R → R
went (inl stopped) = absurd (let e = stopped.2 in cc)
went (inr on) = on

same_value : {B E : Type 0} {a b : B} → ◌≡◌ {A = Result B E} (Ok a) (Ok b) → a ≡ b
same_value e = cc

-- what a statement of a batch does, where its text and the schema are written out
runs_in : (in_batch : Bool) (sql : List ℕ) (params : Row) (old new : State) (schema : Schema) → old.now.schema ≡ schema → (command : Command) → command_of (understood schema sql) ≡ command
    → IsPlain (understood schema sql) → (count : ℕ) → ExecutesIn in_batch sql params old new (Ok count) → Runs old new None command (statement_of sql (understood schema sql)) params count
unfolding ExecutesIn
runs_in in_batch sql params old new schema has command is plain count h =
    let known = sym h.1.is ∙ ap (λ s. understood s sql) has in
    let bare = subst IsPlain (sym known) plain in
    let ran : Runs old new h.0.returning h.0.command (text_of sql h.0) (timed params h.0.formats h.1.now) count = elim (cases_Bool (shows_rows in_batch h.0)) [
      | inl shows ↦ absurd (let e = (rw shows at h.2).0 in cc)
      | inr runs ↦ rw runs at h.2
    ] in
    subst₂ (λ k t. Runs old new None k t params count) (ap command_of known ∙ is) (ap (statement_of sql) known) (rw (bare.0, bare.1, append-nil params) at ran)

-- the table that is made is the last of the schema, and has no rows, and each other one has its rows
makes : (text : List ℕ) (schema : Schema) (table : Table) (old new : State) (count : ℕ) → old.now.schema ≡ schema → table_defined_by text ≡ Ok table → lacks_sequence (created schema table) ≡ false
    → Writes old new None CreateTable text [] count → (new.now.schema ≡ created schema table) × (new.now.trees (next_tree schema) ≡ []) × KeepsRows schema.tables old.now.trees new.now.trees
makes text schema table old new count has defined plain w =
    let all = went w.changed in
    let first = went all.1 in
    let made = first.1 in
    let both : Ok made.table ≡ Ok table = sym made.defined ∙ defined in
    let same : made.table ≡ table = same_value both in
    let schema_is : first.0.schema ≡ created schema table = made.is ∙ ap (λ s. created s made.table) has ∙ ap (created schema) same in
    let counted : lacks_sequence first.0.schema ≡ false = ap lacks_sequence schema_is ∙ plain in
    let now : new.now ≡ first.0 = ap (λ (p : Tally × Database). p.1) (same_value all.2) ∙ same_value (rw counted at first.2) in (
      ap (λ (d : Database). d.schema) now ∙ schema_is,
      ap (λ (d : Database). d.trees (next_tree schema)) now ∙ subst (λ s. first.0.trees (next_tree s) ≡ []) has made.empty,
      subst (λ (d : Database). KeepsRows schema.tables old.now.trees d.trees) (sym now) (subst (λ (s : Schema). KeepsRows s.tables old.now.trees first.0.trees) has made.others),
    )

two_apart : ◌≢◌ {A = ℕ} 0 2
two_apart e = cc

-- a row that is put in table meta leaves those of table row
numbers : (old new : State) (count : ℕ) → old.now.schema ≡ store_schema → Runs old new None (Insert 1 (Values form_terms 3)) (statement_of third_text (understood store_schema third_text)) [] count
    → (new.now.schema ≡ store_schema) × (new.now.trees 0 ≡ old.now.trees 0)
numbers old new count has w =
    let db = old.now.trees in
    let command = Insert 1 (Values form_terms 3) in
    let text = statement_of third_text (understood store_schema third_text) in
    let done = went (subst (λ s. Does old.step_limit (mode_of old) [] (record old.now { schema = s }) text None command (Ok (w.tally, new.now))) has w.changed) in
    let now = ap (λ (p : Tally × Database). p.1) (same_value (went (went done.2).2).2) in
    let given = went done.1 in
    let written = went (went given.2).2 in
    let counted = went written.2 in
    let trees : done.0.trees ≡ written.0 = ap (λ (it : Written). it.trees) (same_value counted.2) ∙ same_value counted.1 in
    let step = one_step store_schema _ db written.0 (edit_of db meta_table [] Chosen 0 given.0) refl written.1 in
    (ap (λ (d : Database). d.schema) now, ap (λ (d : Database). d.trees 0) now ∙ ap (λ (t : Trees). t 0) trees ∙ step.tables.0 two_apart)

-- nor does a new number change them
raises : (old new : State) (count : ℕ) → old.now.schema ≡ store_schema → Runs old new None (Update 1 (record { lets = []; body = raised })) (statement_of raise_text (understood store_schema raise_text)) [] count
    → (new.now.schema ≡ store_schema) × (new.now.trees 0 ≡ old.now.trees 0)
raises old new count has w =
    let db = old.now.trees in
    let command = Update 1 (record { lets = []; body = raised }) in
    let text = statement_of raise_text (understood store_schema raise_text) in
    let done = went (subst (λ s. Does old.step_limit (mode_of old) [] (record old.now { schema = s }) text None command (Ok (w.tally, new.now))) has w.changed) in
    let now = ap (λ (p : Tally × Database). p.1) (same_value (went (went done.2).2).2) in
    let queried = went done.1 in
    let wrote = went queried.2 in
    let trees : done.0.trees ≡ wrote.0 = ap (λ (it : Written). it.trees) (same_value wrote.2) in
    let step = one_step store_schema _ db wrote.0 (edit_of db meta_table (map (λ r. id_in (rowid r)) queried.0) Given 1 queried.0) refl wrote.1 in
    (ap (λ (d : Database). d.schema) now, ap (λ (d : Database). d.trees 0) now ∙ ap (λ (t : Trees). t 0) trees ∙ step.tables.0 two_apart)

empty_table : IsRowTable []
empty_table = record { apart = λ id. omega arith; formed = λ r h. absurd h; once = λ a b h k p q. absurd h }

module _ {S : Type 0} (g : Ghosts S) where
  -- the first of several statements, and the others
  one_turn : (text : List ℕ) (most : ℕ) (old new : Held S) → is_some_text text ≡ true → RunInTurn g (Some 0) most text old new (Ok tt)
      → (mid : Held S) × (count : ℕ) × ExecutesIn true (take (first_len text) text) [] (state g old) (state g mid) (Ok count) × (rest : ℕ) × RunInTurn g (Some 0) rest (drop (first_len text) text) mid new (Ok tt)
  one_turn [] most old new some h = absurd cc
  one_turn (b ∷ more) zero old new some h = absurd h
  one_turn (b ∷ more) (suc most) old new some (inl stopped) = absurd (let e = stopped.1 in cc)
  one_turn (b ∷ more) (suc most) old new some (inr on) = (on.0, on.1, on.2.runs, most, on.3)

  no_turn : (text : List ℕ) (most : ℕ) (old new : Held S) → text ≡ [] → RunInTurn g (Some 0) most text old new (Ok tt) → new ≡ old
  no_turn [] most old new none h = h.1
  no_turn (b ∷ more) most old new none h = absurd cc

  pub store_raised : (old new : Held S) → IsRowStore (state g old).now → ExecutesAllInside g 0 raise_text old new (Ok tt) → HasRows (state g new).now (rows_of ((state g old).now.trees 0))
  unfolding ExecutesAllInside
  store_raised old new store h =
      let one = one_turn raise_text (length raise_text) old new refl h in
      let ran = subst (λ t. ExecutesIn true t [] (state g old) (state g one.0) (Ok one.1)) cut_raise.0 one.2 in
      let did = raises (state g old) (state g one.0) one.1 store.0 (runs_in true raise_text [] (state g old) (state g one.0) store_schema store.0 _ raise_is raise_plain one.1 ran) in
      let last : new ≡ one.0 = no_turn _ one.3 one.0 new cut_raise.1 one.4 in
      subst (λ s. HasRows (state g s).now (rows_of ((state g old).now.trees 0))) (sym last)
      ((did.0, subst IsRowTable (sym did.1) store.1), λ kind key. ap (λ t. rows_of t kind key) did.1)

  pub store_made : (old new : Held S) → (state g old).now.schema ≡ no_schema → ExecutesAllInside g 0 make_text old new (Ok tt) → HasRows (state g new).now no_rows
  unfolding ExecutesAllInside
  store_made old new empty h =
      let one = one_turn make_text (length make_text) old new refl h in
      let ran_one = subst (λ t. ExecutesIn true t [] (state g old) (state g one.0) (Ok one.1)) cut_is.0 one.2 in
      let first = makes row_text no_schema row_table (state g old) (state g one.0) one.1 empty first_is.2 refl
      (subst (λ t. Writes (state g old) (state g one.0) None CreateTable t [] one.1) first_is.1 (runs_in true first_text [] (state g old) (state g one.0) no_schema empty CreateTable first_is.0 first_plain one.1 ran_one)) in
      let two = one_turn after_first one.3 one.0 new some_second one.4 in
      let ran_two = subst (λ t. ExecutesIn true t [] (state g one.0) (state g two.0) (Ok two.1)) cut_is.1 two.2 in
      let second = makes meta_text row_schema (record meta_table { tree = 0 }) (state g one.0) (state g two.0) two.1 first.0 second_is.2 refl
      (subst (λ t. Writes (state g one.0) (state g two.0) None CreateTable t [] two.1) second_is.1 (runs_in true second_text [] (state g one.0) (state g two.0) row_schema first.0 CreateTable second_is.0 second_plain two.1 ran_two)) in
      let left : RunInTurn g (Some 0) two.3 third_text two.0 new (Ok tt) = subst (λ t. RunInTurn g (Some 0) two.3 t two.0 new (Ok tt)) cut_is.2 two.4 in
      let three = one_turn third_text two.3 two.0 new refl left in
      let ran_three = subst (λ t. ExecutesIn true t [] (state g two.0) (state g three.0) (Ok three.1)) cut_third.0 three.2 in
      let third = numbers (state g two.0) (state g three.0) three.1 second.0 (runs_in true third_text [] (state g two.0) (state g three.0) store_schema second.0 _ third_is third_plain three.1 ran_three) in
      let last : new ≡ three.0 = no_turn _ three.3 three.0 new cut_third.1 three.4 in
      let none : (state g three.0).now.trees 0 ≡ [] = third.1 ∙ second.2.0 ∙ first.1 in
      subst (λ s. HasRows (state g s).now no_rows) (sym last)
      ((third.0, subst IsRowTable (sym none) empty_table), λ kind key. ap (λ t. rows_of t kind key) none)

pub made_inside : {S : Type 0} (g : Ghosts S) (old new : Held S) (r : Result (Unit {0}) Error) → (state g old).now.schema ≡ no_schema → ExecutesAllInside g 0 make_text old new r → OnOk r (HasRows (state g new).now no_rows)
made_inside g old new (Ok done) empty h = store_made g old new empty h
made_inside g old new (Err e) empty h = tt

pub raised_inside : {S : Type 0} (g : Ghosts S) (old new : Held S) (r : Result (Unit {0}) Error) → IsRowStore (state g old).now → ExecutesAllInside g 0 raise_text old new r
    → OnOk r (HasRows (state g new).now (rows_of ((state g old).now.trees 0)))
raised_inside g old new (Ok done) store h = store_raised g old new store h
raised_inside g old new (Err e) store h = tt
