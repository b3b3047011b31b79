-- What a query leaves.
use Rattle.std.proofs.Common.{◌≡◌, inl, inr, ℕ, List, [], Option, Some, None, Result, Ok, Err, IfOk, IfErr, sym, subst, ◌∙◌}
use Rattle.sqlite.specs.Given.{IsPlain}
use Rattle.sqlite.specs.Listing.{understood}
use Rattle.sqlite.specs.Order.{Row}
use Rattle.sqlite.specs.State.{State, IsUnchanged, IsRolledBack, IsNotRun, ShowsRows, FailsToShow, FailsToQuery, Shown, QueriesRow}
use Rattle.sqlite.specs.declared.error.Error.{Error}
use Rattle.sqlite_resolve.specs.declared.compiled.Compiled.{Compiled}
use Rattle.sqlite_schema.specs.declared.command.Returning.{Returning}
use Rattle.row_table.specs.Texts.{Leaves}

module _ (sql : List ℕ) (old new : State) where
  abbrev Plain : Type 0
  Plain = IsPlain (understood old.now.schema sql)

  unchanged : IsUnchanged old new → Leaves sql old new
  unchanged same open_now = (same.0.was_open, λ plain still. (same.0.now_is, same.0.committed_is))

  undone : IsRolledBack old new → Leaves sql old new
  undone back open_now = (back.was_open open_now, λ plain still. ((back.undone open_now).0 ∙ sym still, (back.undone open_now).1))

  shown_by : (c : Compiled) (params : Row) (rows : List Row) (returning : Option Returning) → (Plain → returning ≡ None) → ShowsRows old new sql c params rows returning → Leaves sql old new
  shown_by c params rows None none h = unchanged h.3
  shown_by c params rows (Some what) none h = λ open_now. (h.1.shown.was_open, λ plain still. absurd (let e = none plain in cc))

  failed_by : (c : Compiled) (params : Row) (e : Error) (returning : Option Returning) → (Plain → returning ≡ None) → FailsToShow old new sql c params e returning → Leaves sql old new
  failed_by c params e None none h = unchanged h.3
  failed_by c params e (Some what) none (inl refused) = unchanged refused.1
  failed_by c params e (Some what) none (inr failed) = undone failed.3

  not_run : (params : Row) (e : Error) → IsNotRun old new sql params e → Leaves sql old new
  unfolding IsNotRun
  not_run params e (inl refused) = unchanged refused.1
  not_run params e (inr failed) = undone failed.3

  pub failure_leaves : (params : Row) (e : Error) → FailsToQuery sql params old new e → Leaves sql old new
  unfolding FailsToQuery
  failure_leaves params e (inl h) = not_run params e h
  failure_leaves params e (inr h) = failed_by h.0 _ e h.0.returning (λ plain. (subst IsPlain h.1.is plain).0) h.2

  pub shown_leaves : (params : Row) (rows : List Row) → Shown sql params old new rows → Leaves sql old new
  unfolding Shown
  shown_leaves params rows h = shown_by h.0 _ rows h.0.returning (λ plain. (subst IsPlain h.1.is plain).0) h.2

  pub query_leaves : (params : Row) (r : Result Row Error) → QueriesRow sql params old new r → Leaves sql old new
  unfolding QueriesRow
  query_leaves params (Ok row) (inl h) = unchanged h.1
  query_leaves params (Ok row) (inr h) = shown_leaves params h.0 h.1
  query_leaves params (Err e) (inl h) = failure_leaves params e h
  query_leaves params (Err e) (inr h) = shown_leaves params [] h.1

  shown_same : (c : Compiled) (params : Row) (rows : List Row) (returning : Option Returning) → returning ≡ None → ShowsRows old new sql c params rows returning → IsUnchanged old new
  shown_same c params rows None none h = h.3
  shown_same c params rows (Some what) none h = absurd cc

  -- a query that found a row changed nothing
  pub query_same : (params row : Row) → Plain → QueriesRow sql params old new (Ok row) → IsUnchanged old new
  unfolding QueriesRow Shown
  query_same params row plain (inl h) = h.1
  query_same params row plain (inr h) = shown_same h.1.0 _ h.0 h.1.0.returning (subst IsPlain h.1.1.is plain).0 h.1.2

  pub all_leave : {V : Type 0} (items : V → List Row) (params : Row) (r : Result V Error) → IfOk r (λ v. Shown sql params old new (items v)) → IfErr r (FailsToQuery sql params old new) → Leaves sql old new
  all_leave items params (Ok v) h k = shown_leaves params (items v) h
  all_leave items params (Err e) h k = failure_leaves params e k
