-- What the upsert does to the rows.
use Rattle.std.proofs.Common.{◌≡◌, ◌⊎◌, inl, inr, ℕ, ℤ, pos, List, [], ◌∷◌, ◌++◌, map, filter, flat_map, Bool, true, false, cond, if◌then◌else◌, Option, Some, None, Ok, Err, Result, OnOk, refl, sym, ap, subst, ◌∙◌}
use Rattle.std.specs.List.Sorted.{IsPermutation}
use Rattle.sqlite.specs.declared.types.Value.TheVariants.{Null, Int, Text}
use Rattle.sqlite.specs.declared.error.Error.{Error}
use Rattle.sqlite.specs.Order.{Row, column}
use Rattle.sqlite.specs.Term.{Env}
use Rattle.sqlite.specs.Query.{IsAnswer, Output, output}
use Rattle.sqlite.specs.Program.{overlay}
use Rattle.std.proofs.lemmas.List.Sorted.{IsPermutation-map}
use Rattle.std.proofs.Math.Path.{subst₂}
use Rattle.sqlite.specs.Command.TheVariants.{InsertOr}
use Rattle.sqlite.specs.Source.TheVariants.{Values}
use Rattle.sqlite.specs.Edit.{edit_of, id_in, put_all, are_fresh}
use Rattle.sqlite.specs.Rowids.TheVariants.{Given}
use Rattle.sqlite.specs.Cast.{cast_row}
use Rattle.sqlite.specs.Tree.{Trees, rowid}
use Rattle.sqlite.specs.Does.{Tally, Does}
use Rattle.sqlite.specs.Rows as rows
use Rattle.sqlite.specs.Rows.{Updates, shown, Written, Task, TriesEach, Tries, Meets, Upserts, Clears, nothing, count_of}
use Rattle.sqlite_rules.specs.Keys.{AreConflicts}
use Rattle.sqlite_schema.specs.declared.schema.Keys.{Keys}
use Rattle.sqlite.specs.Effect.{Database}
use Rattle.sqlite.specs.Listing.{understood}
use Rattle.sqlite.specs.State.{State, mode_of, Executes}
use Rattle.sqlite.proofs.Callers.{IsPlain, statement_of, runs_as, one_step}
use Rattle.sqlite_schema.specs.declared.command.Conflict.TheVariants.{Abort}
use Rattle.sqlite_tied.specs.Compute.{everything}
use Rattle.row_table.specs.Tables.{store_schema, row_table}
use Rattle.row_table.specs.Texts.{put_text}
use Rattle.row_table.proofs.Words.{new_row, has_id, with_text, Puts}
use Rattle.row_table.proofs.Upsert.{given, clause, changed, upsert_is}

went : {B E R : Type 0} {b : B} {Stops : E → Type 0} → ((stop : E) × Stops stop × (Ok b ≡ Err stop)) ⊎ R → R
went (inl stopped) = absurd (let e = stopped.2 in cc)
went (inr on) = on

same_value : {B E : Type 0} {a b : B} → ◌≡◌ {A = Result B E} (Ok a) (Ok b) → a ≡ b
same_value e = cc

upsert_plain : IsPlain (understood store_schema put_text)
unfolding understood everything
upsert_plain = (refl, refl)

abbrev pub put_params : ℕ → List ℕ → List ℕ → Row
put_params kind key text = Int (pos kind) ∷ Text key ∷ Text text ∷ []

abbrev task : Option ℕ → Keys → Row → Task
task limit keys params = record { limit = limit; keys = keys; schema = store_schema; table = row_table; params = params }

-- ---- the query behind the update

abbrev found : Row → Row → List Row → List Env
found given r = flat_map (λ x. if has_id (rowid r) x then (given ∷ x ∷ []) ∷ [] else [])

abbrev given_for : Row → Row → Row → Row
given_for params there new = params ++ rowid there ∷ shown row_table new

abbrev shows : List Env → List Row
shows envs = map (λ (o : Output). o.1) (map (output changed) envs)

module _ (kind : ℕ) (key text : List ℕ) (r new : Row) where
  abbrev env : Row
  env = given_for (put_params kind key text) (rowid r ∷ []) new

  one_more : (x : Row) (xs : List Row) (b : Bool) → shows (found env r xs) ≡ map (with_text (column new 3)) (filter (has_id (rowid r)) xs)
      → shows ((if b then (env ∷ x ∷ []) ∷ [] else []) ++ found env r xs) ≡ map (with_text (column new 3)) (cond b (x ∷ filter (has_id (rowid r)) xs) (filter (has_id (rowid r)) xs))
  one_more x xs true h = ap (λ rows. with_text (column new 3) x ∷ rows) h
  one_more x xs false h = h

  matched : (xs : List Row) → shows (found env r xs) ≡ map (with_text (column new 3)) (filter (has_id (rowid r)) xs)
  matched [] = refl
  matched (x ∷ xs) = one_more x xs (has_id (rowid r) x) (matched xs)

  answers : (db : Trees) (rows : List Row) → IsAnswer changed (overlay db []) env rows → IsPermutation (map (with_text (column new 3)) (filter (has_id (rowid r)) (db 0))) rows
  answers db rows a =
      let kept : a.kept ≡ map (output changed) (found env r (db 0)) = a.distinct ∙ ap (map (output changed)) a.grouped in
      let shown : rows ≡ map (λ (o : Output). o.1) a.ordered = a.shown in
      let from : map (λ (o : Output). o.1) a.kept ≡ map (with_text (column new 3)) (filter (has_id (rowid r)) (db 0)) = ap (map (λ (o : Output). o.1)) kept ∙ matched (db 0) in
      subst₂ (λ xs ys. IsPermutation xs ys) from (sym shown) (IsPermutation-map (λ (o : Output). o.1) a.kept a.ordered a.same)

module _ (limit : Option ℕ) (keys : Keys) (db : Trees) (kind : ℕ) (key text : List ℕ) (it : Written) where
  abbrev params : Row
  params = put_params kind key text

  abbrev new : Row
  new = new_row (db 0) kind key text

  abbrev Done : Type 0
  Done = Puts kind key text (db 0) (it.trees 0)

  abbrev Placed : Type 0
  Placed = (it.trees 0 ≡ put_all (db 0) (cast_row row_table new ∷ [])) × (are_fresh (db 0) (cast_row row_table new ∷ []) ≡ true)

  put_in : rows.Puts (task limit keys params) new db (Ok it) → Placed
  put_in h =
      let wrote = went h in
      let edit = edit_of db row_table [] Given 0 (new ∷ []) in
      let step = one_step store_schema keys db wrote.0 edit refl wrote.1 in
      (ap (λ (w : Written). w.trees 0) (same_value wrote.2) ∙ step.rows, step.fresh)

  cleared : (found : List Row) → Clears (task limit keys params) Abort new db found (Ok it) → Placed
  cleared [] h = put_in h
  cleared (x ∷ more) h = put_in h

  met : (found : List Row) → AreConflicts (Some (1 ∷ 2 ∷ [])) store_schema.indexes row_table (db 0) new found
      → Meets (task limit keys params) (Upserts (task limit keys params) Abort new db []) new db clause found (Ok it) → Done
  met [] c h = inl (λ r has conflict. c.complete r has conflict, (cleared h.0 h.2).0, (cleared h.0 h.2).1)
  met (there ∷ more) c h =
      let t = c.sound there (inl refl) in
      let updates : Updates (task limit keys params) (record { lets = []; body = changed }) (given_for params (rowid t.0 ∷ []) new) db (Ok it) =
      subst (λ one. Updates (task limit keys params) (record { lets = []; body = changed }) (given_for params one new) db (Ok it)) t.3 h in
      let queried = went updates in
      let wrote = went queried.2 in
      let edit = edit_of db row_table (map (λ x. id_in (rowid x)) queried.0) Given 1 queried.0 in
      let step = one_step store_schema keys db wrote.0 edit refl wrote.1 in
      inr (t.0, (t.1, t.2, (queried.0, answers kind key text t.0 new db queried.0 (queried.1.answer Null), ap (λ (w : Written). w.trees 0) (same_value wrote.2) ∙ step.rows, step.fresh)))

  tried_puts : Tries (task limit keys params) Abort (clause ∷ []) new db (Ok it) → Done
  tried_puts (inl h) = absurd (let e = h.1 in cc)
  tried_puts (inr (None, judged, ups)) = met ups.0 ups.1 ups.2
  tried_puts (inr (Some why, judged, refused)) = absurd (let e = refused in cc)

pub puts : (old new : State) (kind : ℕ) (key text : List ℕ) (r : Result ℕ Error) → old.now.schema ≡ store_schema → Executes put_text (put_params kind key text) old new r
    → OnOk r (new.now.schema ≡ store_schema) × OnOk r (Puts kind key text (old.now.trees 0) (new.now.trees 0))
puts old new kind key text (Err e) has h = (tt, tt)
puts old new kind key text (Ok count) has h =
    let params = put_params kind key text in
    let db = old.now.trees in
    let command = InsertOr 0 Abort (Values given 4) (clause ∷ []) in
    let w = runs_as put_text params old new store_schema has command upsert_is upsert_plain count h in
    let sql = statement_of put_text (understood store_schema put_text) in
    let done = went (subst (λ s. Does old.step_limit (mode_of old) params (record old.now { schema = s }) sql None command (Ok (w.tally, new.now))) has w.changed) in
    let now = ap (λ (p : Tally × Database). p.1) (same_value (went (went done.2).2).2) in
    let sourced = went done.1 in
    let counted = went sourced.2 in
    let tried = went counted.2 in
    let summed = went tried.2 in
    let written : done.0.trees ≡ summed.0 = ap (λ (it : Written). it.trees) (same_value summed.2) in
    let same : summed.0 ≡ tried.0.0.trees = same_value summed.1 in
    let each = subst (λ rows. TriesEach (task old.step_limit (mode_of old).keys params) Abort (clause ∷ []) rows (count_of counted.0) (nothing db) (Ok tried.0)) sourced.1.1 tried.1 in
    let one = went each in
    let last : tried.0.0.trees ≡ one.0.trees = ap (λ (p : Written × ℤ). p.0.trees) (same_value one.2) in
    let put = tried_puts old.step_limit (mode_of old).keys db kind key text one.0 one.1 in
    let trees : new.now.trees 0 ≡ one.0.trees 0 = ap (λ (d : Database). d.trees 0) now ∙ ap (λ (t : Trees). t 0) (written ∙ (same ∙ last)) in
    (ap (λ (d : Database). d.schema) now, subst (λ t. Puts kind key text (db 0) t) (sym trees) put)
