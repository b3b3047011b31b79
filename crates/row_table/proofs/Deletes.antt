-- What the DELETE does to the rows.
use Rattle.std.proofs.Common.{◌≡◌, ◌⊎◌, inl, inr, ℕ, ℤ, List, [], ◌∷◌, ◌++◌, map, filter, flat_map, Bool, true, false, cond, if◌then◌else◌, None, Ok, Err, Result, OnOk, refl, sym, ap, subst, ◌∙◌}
use Rattle.std.proofs.Math.Path.{subst₂}
use Rattle.std.specs.List.Sorted.{IsPermutation}
use Rattle.std.proofs.lemmas.List.Sorted.{IsPermutation-map}
use Rattle.sqlite.specs.declared.types.Value.TheVariants.{Null}
use Rattle.sqlite.specs.declared.error.Error.{Error}
use Rattle.sqlite.specs.Order.{Row}
use Rattle.sqlite.specs.Query.{IsAnswer, Output, output, page}
use Rattle.sqlite.specs.Program.{overlay}
use Rattle.sqlite.specs.Command.TheVariants.{Delete}
use Rattle.sqlite.specs.Term.{Env}
use Rattle.sqlite.specs.Edit.{edit_of, id_in}
use Rattle.sqlite.specs.Rowids.TheVariants.{Given}
use Rattle.sqlite.specs.Tree.{Trees, rowid}
use Rattle.sqlite.specs.Does.{Tally, Does}
use Rattle.sqlite.specs.Rows.{Written}
use Rattle.sqlite.specs.Effect.{Database}
use Rattle.sqlite.specs.Listing.{understood}
use Rattle.sqlite.specs.State.{State, mode_of, Executes}
use Rattle.sqlite.proofs.Callers.{statement_of, runs_as, one_step}
use Rattle.row_table.specs.Tables.{store_schema, row_table}
use Rattle.row_table.specs.Texts.{delete_text}
use Rattle.row_table.proofs.Words.{params_of, is_named, IsWithout}
use Rattle.row_table.proofs.Means.{named, delete_is, delete_plain}

went : {B E R : Type 0} {b : B} {Stops : E → Type 0} → ((stop : E) × Stops stop × (Ok b ≡ Err stop)) ⊎ R → R
went (inl stopped) = absurd (let e = stopped.2 in cc)
went (inr on) = on

same_value : {B E : Type 0} {a b : B} → ◌≡◌ {A = Result B E} (Ok a) (Ok b) → a ≡ b
same_value e = cc

abbrev ids : List Row → List ℤ
ids = map (λ r. id_in (rowid r))

abbrev output_ids : List Env → List ℤ
output_ids envs = map (λ (o : Output). id_in (rowid o.1)) (map (output named) envs)

abbrev found : Row → List Row → List Env
found params = flat_map (λ r. if is_named params r then (params ∷ r ∷ []) ∷ [] else [])

one_more : (params r : Row) (rs : List Row) (b : Bool) → output_ids (found params rs) ≡ ids (filter (is_named params) rs)
    → output_ids ((if b then (params ∷ r ∷ []) ∷ [] else []) ++ found params rs) ≡ ids (cond b (r ∷ filter (is_named params) rs) (filter (is_named params) rs))
one_more params r rs true h = ap (λ is. id_in (rowid r) ∷ is) h
one_more params r rs false h = h

matched : (params : Row) (rs : List Row) → output_ids (found params rs) ≡ ids (filter (is_named params) rs)
matched params [] = refl
matched params (r ∷ rs) = one_more params r rs (is_named params r) (matched params rs)

paged : (outs : List Output) (params : Row) → page named params (map (λ (o : Output). o.1) outs) ≡ map (λ (o : Output). o.1) outs
paged outs params = refl

ids_shown : (outs : List Output) → ids (map (λ (o : Output). o.1) outs) ≡ map (λ (o : Output). id_in (rowid o.1)) outs
ids_shown [] = refl
ids_shown (o ∷ outs) = ap (λ is. id_in (rowid o.1) ∷ is) (ids_shown outs)

-- the query behind the DELETE gives the rowids of the rows that are named
answers : (db : Trees) (params : Row) (rows : List Row) → IsAnswer named (overlay db []) params rows → IsPermutation (ids (filter (is_named params) (db 0))) (ids rows)
answers db params rows a =
    let kept : a.kept ≡ map (output named) (found params (db 0)) = a.distinct ∙ ap (map (output named)) a.grouped in
    let shown : ids rows ≡ map (λ (o : Output). id_in (rowid o.1)) a.ordered = ap ids (a.shown ∙ paged a.ordered params) ∙ ids_shown a.ordered in
    let from : map (λ (o : Output). id_in (rowid o.1)) a.kept ≡ ids (filter (is_named params) (db 0)) = ap (map (λ (o : Output). id_in (rowid o.1))) kept ∙ matched params (db 0) in
    subst₂ (λ xs ys. IsPermutation xs ys) from (sym shown) (IsPermutation-map (λ (o : Output). id_in (rowid o.1)) a.kept a.ordered a.same)

pub deletes : (old new : State) (kind : ℕ) (key : List ℕ) (r : Result ℕ Error) → old.now.schema ≡ store_schema → Executes delete_text (params_of kind key) old new r
    → OnOk r (new.now.schema ≡ store_schema) × OnOk r (IsWithout kind key (old.now.trees 0) (new.now.trees 0))
deletes old new kind key (Err e) has h = (tt, tt)
deletes old new kind key (Ok count) has h =
    let params = params_of kind key in
    let db = old.now.trees in
    let command = Delete 0 (record { lets = []; body = named }) in
    let w = runs_as delete_text params old new store_schema has command delete_is delete_plain count h in
    let text = statement_of delete_text (understood store_schema delete_text) in
    let done = went (subst (λ s. Does old.step_limit (mode_of old) params (record old.now { schema = s }) text None command (Ok (w.tally, new.now))) has w.changed) in
    let now = ap (λ (p : Tally × Database). p.1) (same_value (went (went done.2).2).2) in
    let queried = went done.1 in
    let wrote = went queried.2 in
    let edit = edit_of db row_table (map (λ r. id_in (rowid r)) queried.0) Given 0 [] in
    let step = one_step store_schema _ db wrote.0 edit refl wrote.1 in
    let trees : done.0.trees ≡ wrote.0 = ap (λ (it : Written). it.trees) (same_value wrote.2) in
    (ap (λ (d : Database). d.schema) now, (map (λ r. id_in (rowid r)) queried.0, answers db params queried.0 (queried.1.answer Null), ap (λ (d : Database). d.trees 0) now ∙ ap (λ (t : Trees). t 0) trees ∙ step.rows))
