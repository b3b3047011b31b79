-- Puts with a way back.
use Rattle.std.proofs.Common.{◌≡◌, ℕ, ◌+◌, ◌<◌, Bool, true, false, cond, not, List, [], ◌∷◌, ◌++◌, length, get_or, drop, take, filter, reverse, sym, ◌∙◌, ap, subst}
use Rattle.std.proofs.lemmas.List.{reverse-append, drop_more, take_at}
use Rattle.hub_rows.specs.RowKeys.{is_put}
use Rattle.hub_rows.specs.declared.changes.RowChange.{RowChange}
use Rattle.hub_rows.specs.declared.changes.RowChange.TheVariants.{Put, Remove}
use Rattle.hub_tables.specs.Changes.{row_done, rows_done, puts_of, FitsRow, FitAll}
use Rattle.hub_tables.specs.State.{State}
use Rattle.table_changes.specs.Staged.{IsFree, AreFree, LeadsBack}
use Rattle.table_changes.specs.Steps.{OneMore}

-- ---- the way back

backwards : (log log' : List RowChange) (x : RowChange) → log' ≡ log ++ x ∷ [] → reverse log' ≡ x ∷ reverse log
backwards log log' x e = ap reverse e ∙ reverse-append log (x ∷ [])

pub leads : (log log' : List RowChange) (s t before : State) → LeadsBack log s before → OneMore s t log log' → LeadsBack log' t before
leads log log' s t before h more =
    let e : reverse log' ≡ more.step ∷ reverse log = backwards log log' more.step more.logged in record {
      free = subst (λ (l : List RowChange). AreFree l t) (sym e) (more.free, subst (AreFree (reverse log)) (sym more.back) h.free);
      back = ap (λ (l : List RowChange). rows_done l t) e ∙ ap (rows_done (reverse log)) more.back ∙ h.back;
    }

pub leads_still : (log log' : List RowChange) (t t' before : State) → log' ≡ log → t' ≡ t → LeadsBack log t before → LeadsBack log' t' before
leads_still log log' t t' before e f h = subst (λ (u : State). LeadsBack log' u before) (sym f) (subst (λ (l : List RowChange). LeadsBack l t before) (sym e) h)

-- the last step may be done
pub last_free : (log rest : List RowChange) (back : RowChange) (t : State) → log ≡ rest ++ back ∷ [] → AreFree (reverse log) t → IsFree back t
last_free log rest back t last h =
    let free : IsFree back t × AreFree (reverse rest) (row_done back t) = subst (λ (l : List RowChange). AreFree l t) (backwards rest log back last) h in
    free.0

-- the steps that are left, after the last is done
module _ (log rest : List RowChange) (back : RowChange) (t u : State) (last : log ≡ rest ++ back ∷ []) (done : u ≡ row_done back t) where
  pub free_then : AreFree (reverse log) t → AreFree (reverse rest) u
  free_then h =
      let free : IsFree back t × AreFree (reverse rest) (row_done back t) = subst (λ (l : List RowChange). AreFree l t) (backwards rest log back last) h in
      subst (AreFree (reverse rest)) (sym done) free.1

  pub back_then : (whole : State) → rows_done (reverse log) t ≡ whole → rows_done (reverse rest) u ≡ whole
  back_then whole h = ap (rows_done (reverse rest)) done ∙ sym (ap (λ (l : List RowChange). rows_done l t) (backwards rest log back last)) ∙ h

-- the log without its last step
pub taken_back : (before after : State) (log log' : List RowChange) (n : ℕ) → n ≡ length log → OneMore before after log log' → take n log' ≡ log
taken_back before after log log' n e more = ap (take n) more.logged ∙ take_at log (more.step ∷ []) n (sym e)

-- ---- the rows from here on

fit_put : (row : RowChange) (rest : List RowChange) (t : State) → is_put row ≡ true → FitAll (row ∷ rest) t → FitsRow t row × FitAll rest (row_done row t)
fit_put (Put row) rest t e h = h
fit_put (Remove key) rest t e h = cc

fit_none : (row : RowChange) (rest : List RowChange) (t : State) → is_put row ≡ false → FitAll (row ∷ rest) t → FitAll rest t
fit_none (Put row) rest t e h = cc
fit_none (Remove key) rest t e h = h

module _ (rows : List RowChange) (i : ℕ) (row : RowChange) (within : i < length rows) (at : row ≡ get_or rows i row) where
  -- this row, and those after it
  here : drop i rows ≡ row ∷ drop (i + 1) rows
  here = drop_more rows i row within ∙ ap (λ x. x ∷ drop (i + 1) rows) (sym at)

  fits_from : (t : State) → FitAll (drop i rows) t → FitAll (row ∷ drop (i + 1) rows) t
  fits_from t h = subst (λ (l : List RowChange). FitAll l t) here h

  pub fits_here : (t : State) → is_put row ≡ true → FitAll (drop i rows) t → FitsRow t row
  fits_here t e h = (fit_put row (drop (i + 1) rows) t e (fits_from t h)).0

  pub fits_after : (t u : State) → is_put row ≡ true → u ≡ row_done row t → FitAll (drop i rows) t → FitAll (drop (i + 1) rows) u
  fits_after t u e done h = subst (FitAll (drop (i + 1) rows)) (sym done) (fit_put row (drop (i + 1) rows) t e (fits_from t h)).1

  pub fits_past : (t u : State) → is_put row ≡ false → u ≡ t → FitAll (drop i rows) t → FitAll (drop (i + 1) rows) u
  fits_past t u e same h = subst (FitAll (drop (i + 1) rows)) (sym same) (fit_none row (drop (i + 1) rows) t e (fits_from t h))

  puts_here : (b : Bool) → is_put row ≡ b → puts_of (drop i rows) ≡ cond b (row ∷ puts_of (drop (i + 1) rows)) (puts_of (drop (i + 1) rows))
  puts_here b e = ap puts_of here ∙ ap (λ b. cond b (row ∷ puts_of (drop (i + 1) rows)) (puts_of (drop (i + 1) rows))) e

  -- the puts that are left, after this one is done
  pub put_here : (t u whole : State) → is_put row ≡ true → u ≡ row_done row t → rows_done (puts_of (drop i rows)) t ≡ whole → rows_done (puts_of (drop (i + 1) rows)) u ≡ whole
  put_here t u whole e done h = ap (rows_done (puts_of (drop (i + 1) rows))) done ∙ ap (λ (l : List RowChange). rows_done l t) (sym (puts_here true e)) ∙ h

  -- and where it is none
  pub none_here : (t u whole : State) → is_put row ≡ false → u ≡ t → rows_done (puts_of (drop i rows)) t ≡ whole → rows_done (puts_of (drop (i + 1) rows)) u ≡ whole
  none_here t u whole e same h = ap (rows_done (puts_of (drop (i + 1) rows))) same ∙ ap (λ (l : List RowChange). rows_done l t) (sym (puts_here false e)) ∙ h
