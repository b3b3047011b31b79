-- What steps inside a transaction leave.
use Rattle.std.proofs.Common.{◌≡◌, inl, inr, ℕ, List, [], cond, Bool, IsTrue, Option, Some, None, Result, Ok, Err, OnOk, IfOk, ap, ◌∙◌}
use Rattle.sqlite.specs.Store.{Ghosts}
use Rattle.sqlite.specs.Order.{Row}
use Rattle.sqlite.specs.declared.error.Error.{Error}
use Rattle.sqlite.specs.Batch.{ExecutesAllInside}
use Rattle.sqlite.specs.State.{State, KeepsCommit, ExecutesInside, QueriesRow, QueriesRowInside, Shown, ShowsRows, FailsToQuery, FailsToShow, IsNotRun}
use Rattle.sqlite.specs.Held.{Held}
use Rattle.sqlite.proofs.InsideLemmas.{unchanged_keeps, inside_keeps}
use Rattle.sqlite_schema.specs.declared.command.Returning.{Returning}
use Rattle.sqlite_resolve.specs.declared.compiled.Compiled.{Compiled}

pub runs_keep : (sql : List ℕ) (params : Row) (old new : State) (r : Result ℕ Error) → ExecutesInside 0 sql params old new r → KeepsCommit old new × OnOk r (IsTrue new.in_transaction)
runs_keep sql params old new (Ok count) h = (inside_keeps old new 0 _ sql params (Ok count) h, h.1.mode)
runs_keep sql params old new (Err e) h = (inside_keeps old new 0 _ sql params (Err e) h, tt)

module _ (old new : State) (inside : IsTrue old.in_transaction) where
  shows_keep : (sql : List ℕ) (c : Compiled) (params : Row) (rows : List Row) (returning : Option Returning) → ShowsRows old new sql c params rows returning → KeepsCommit old new × IsTrue new.in_transaction
  shows_keep sql c params rows None h = (unchanged_keeps old new (inl h.3), h.3.0.mode ∙ inside)
  shows_keep sql c params rows (Some what) h =
      let w = h.1.shown in
      (record { was_open = λ _. w.was_open; committed = λ _. w.committed_is ∙ ap (λ b. cond b old.committed new.now) inside }, w.mode ∙ inside)

  refusal_keeps : (sql : List ℕ) (c : Compiled) (params : Row) (e : Error) (returning : Option Returning) → FailsToShow old new sql c params e returning → KeepsCommit old new
  refusal_keeps sql c params e None h = unchanged_keeps old new (inl h.3)
  refusal_keeps sql c params e (Some what) (inl refused) = unchanged_keeps old new (inl refused.1)
  refusal_keeps sql c params e (Some what) (inr failed) = unchanged_keeps old new (inr failed.3)

  failure_keeps : (sql : List ℕ) (params : Row) (e : Error) → FailsToQuery sql params old new e → KeepsCommit old new
  unfolding FailsToQuery IsNotRun
  failure_keeps sql params e (inl (inl refused)) = unchanged_keeps old new (inl refused.1)
  failure_keeps sql params e (inl (inr failed)) = unchanged_keeps old new (inr failed.3)
  failure_keeps sql params e (inr h) = refusal_keeps sql h.0 _ e h.0.returning h.2

  pub query_keeps : (sql : List ℕ) (params : Row) (r : Result Row Error) → QueriesRowInside sql params old new r → KeepsCommit old new × OnOk r (IsTrue new.in_transaction)
  unfolding QueriesRow Shown
  query_keeps sql params (Ok row) (inl h) = (unchanged_keeps old new (inl h.1), h.1.0.mode ∙ inside)
  query_keeps sql params (Ok row) (inr h) = shows_keep sql h.1.0 _ h.0 h.1.0.returning h.1.2
  query_keeps sql params (Err e) (inl (inl h)) = (failure_keeps sql params e h, tt)
  query_keeps sql params (Err e) (inl (inr h)) = ((shows_keep sql h.1.0 _ [] h.1.0.returning h.1.2).0, tt)
  query_keeps sql params (Err e) (inr late) = (unchanged_keeps old new (inl late.5), tt)

pub row_found : (sql : List ℕ) (params : Row) (old new : State) (r : Result Row Error) → QueriesRowInside sql params old new r → IfOk r (λ row. QueriesRow sql params old new (Ok row))
row_found sql params old new (Ok row) h = h
row_found sql params old new (Err e) h = tt

pub all_ran : {S : Type 0} (g : Ghosts S) (sql : List ℕ) (old new : Held S) (r : Result (Unit {0}) Error) → ExecutesAllInside g 0 sql old new r → OnOk r (ExecutesAllInside g 0 sql old new (Ok tt))
all_ran g sql old new (Ok done) h = h
all_ran g sql old new (Err e) h = tt

-- a transaction that went on goes on
pub goes_on : {A E : Type 0} (before after : Bool) (r : Result A E) → OnOk r (after ≡ before) → IsTrue before → OnOk r (IsTrue after)
goes_on before after (Ok a) same inside = same ∙ inside
goes_on before after (Err e) same inside = tt
