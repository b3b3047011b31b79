-- What steps inside a transaction leave.
use Rattle.std.proofs.Common.{◌≡◌, inr, ℕ, List, [], ◌∷◌, ◌++◌, map, Bool, true, false, IsTrue, Result, Ok, Err, OnOk, IfOk, refl, subst}
use Rattle.keeper.specs.declared.keeper.Item.{Item}
use Rattle.keeper.specs.declared.keeper.Row.{Row as Kept}
use Rattle.sqlite.specs.Store.{Ghosts}
use Rattle.sqlite.specs.Order.{Row, column}
use Rattle.sqlite.specs.declared.types.Value.TheVariants.{Int}
use Rattle.sqlite.specs.declared.error.Error.{Error}
use Rattle.sqlite.specs.State.{Shows, KeepsCounts, Executes, QueriesRow, Shown}
use Rattle.sqlite.specs.Held.{Held, state}
use Rattle.keeper_sqlite.specs.declared.store.Form.{Form}
use Rattle.keeper_sqlite.specs.Forms.{number_of}
use Rattle.row_table.specs.Shown.{shown, front}
use Rattle.row_table.specs.Texts.{number_text, select_text}
use Rattle.keeper_sqlite.specs.Statements.{text_of, values_of, HasNoTables, IsOfForm, IsLoaded, AreDone, IsRaised, IsKnown, IsRenewed, IsCommitted}

-- one item more
pub done_more : {S : Type 0} (g : Ghosts S) (items : List Item) (item : Item) (a b c : Held S) (count : ℕ) → AreDone g items a b
    → Executes (text_of item) (values_of item) (state g b) (state g c) (Ok count) → AreDone g (items ++ item ∷ []) a c
done_more g [] item a b c count h ran = (c, count, subst (λ s. Executes (text_of item) (values_of item) (state g s) (state g c) (Ok count)) h ran, refl)
done_more g (i ∷ is) item a b c count h ran = (h.0, h.1, h.2, done_more g is item h.0 b c count h.3 ran)

-- a store of a form is renewed
pub known_renewed : {S : Type 0} (g : Ghosts S) (old found new : Held S) (row : Row) (form : Form) (r : Result (Unit {0}) Error)
    → QueriesRow number_text [] (state g old) (state g found) (Ok row) → column row 0 ≡ Int (number_of form) → OnOk r (IsRaised g form found new) → OnOk r (IsKnown g old new)
known_renewed g old found new row form (Ok done) queried number raised =
    record { form = form; found = found; is_of = record { row = row; queried = queried; number = number }; raised = raised }
known_renewed g old found new row form (Err e) queried number raised = tt

-- a transaction in which all was done is committed
pub all_committed : {S : Type 0} (g : Ghosts S) (items : List Item) (old begun last new : Held S) (r : Result (Unit {0}) Error)
    → OnOk r (IsTrue (state g last).in_transaction × Shows (state g last) (state g new) (state g last).now (state g last).now false × KeepsCounts (state g last) (state g new) × ((state g new).marks ≡ []))
    → (is_empty : Bool) → (IsTrue is_empty → HasNoTables (state g old).now.schema) → (HasNoTables (state g old).now.schema → IsTrue is_empty)
    → IsRenewed g is_empty (record old { in_transaction = true }) begun → AreDone g items begun last → OnOk r (IsCommitted g items old new)
all_committed g items old begun last new (Ok done) shown is_empty empty only renewed ran = record {
  is_empty = is_empty;
  empty = empty;
  only = only;
  begun = begun;
  last = last;
  renewed = renewed;
  done = ran;
  committed = shown.1.committed_is;
  now = shown.1.now_is;
}
all_committed g items old begun last new (Err e) shown is_empty empty only renewed ran = tt

-- the rows that show as those of the selection are loaded
pub all_loaded : {S V : Type 0} (g : Ghosts S) (old found new : Held S) (form : Form) (rows : List Row) (r : Result V Error) (items : V → List Kept)
    → IfOk r (λ all. map shown (items all) ≡ map front rows) → ¬ HasNoTables (state g old).now.schema → IsOfForm g form old found → Shown select_text [] (state g found) (state g new) rows
    → IfOk r (λ all. IsLoaded g old new (items all))
all_loaded g old found new form rows (Ok all) items same some is_of selected =
    inr (some, record { form = form; found = found; is_of = is_of; rows = rows; selected = selected; same = same })
all_loaded g old found new form rows (Err e) items same some is_of selected = tt
