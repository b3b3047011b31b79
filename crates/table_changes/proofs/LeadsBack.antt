-- The way back from a change.
use Rattle.std.proofs.Common.{◌≡◌, Option, Some, Result, Ok, Err, IfOk, inl, inr, sym, ap, ◌∙◌, refl}
use Rattle.hub_rows.specs.RowKeys.{key_of, key_in}
use Rattle.hub_rows.specs.declared.changes.RowChange.{RowChange}
use Rattle.hub_rows.specs.declared.rows.Row.{Row}
use Rattle.hub_tables.specs.Changes.{row_at, row_done, put_or_remove, way_back}
use Rattle.hub_tables.specs.Own.{AreOwn}
use Rattle.hub_tables.specs.State.{State}
use Rattle.hub_tables.proofs.RowsAt.{same_or_not, same_tables, done_other, done_fixed, set_key, set_same}

module _ (s : State) (c : RowChange) (own : AreOwn s) where
  -- the row that stood under its key stands there again, and all else stands as it stood
  set_again : (at : Option Row) → row_at s (key_in c) ≡ at → row_done (put_or_remove (key_in c) at) (row_done c s) ≡ s
  set_again at is =
      let back = put_or_remove (key_in c) at in
      let its_own : (row : Row) → at ≡ Some row → key_of row ≡ key_in c = λ row e. own (key_in c) row (is ∙ e) in
      let after = done_fixed back (row_done c s) in
      let done = done_fixed c s in
      same_tables (row_done back (row_done c s)) s
      (λ key. elim (same_or_not key (key_in c)) as (λ _. row_at (row_done back (row_done c s)) key ≡ row_at s key) [
        | inl here ↦ ap (row_at (row_done back (row_done c s))) here ∙ set_same (key_in c) at (row_done c s) its_own ∙ sym is ∙ ap (row_at s) (sym here)
        | inr apart ↦ done_other back (row_done c s) key (λ e. apart (e ∙ set_key (key_in c) at its_own)) ∙ done_other c s key apart
      ])
      (after.0 ∙ done.0) (after.1 ∙ done.1)

  -- the way back leads back
  pub undone : row_done (way_back s c) (row_done c s) ≡ s
  undone = set_again (row_at s (key_in c)) refl

  pub leads_back : {E : Type 0} (r : Result RowChange E) → IfOk r (λ back. back ≡ way_back s c) → IfOk r (λ back. row_done back (row_done c s) ≡ s)
  leads_back (Ok back) is = ap (λ b. row_done b (row_done c s)) is ∙ undone
  leads_back (Err e) is = tt
