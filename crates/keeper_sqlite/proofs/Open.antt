-- What keeps a keeper telling.
use Rattle.std.proofs.Common.{◌≡◌, ◌⊎◌, inl, inr, ℕ, List, true, false, Bool, Result, Ok, Err, OnOk, IsTrue, refl, sym, subst}
use Rattle.sqlite.specs.Held.{Held, state}
use Rattle.sqlite.specs.Order.{Row}
use Rattle.sqlite.specs.State.{State, HasCleanDisk, QueriesRow}
use Rattle.sqlite.specs.Store.{Ghosts}
use Rattle.row_table.specs.Open.{StaysOpen}
use Rattle.row_table.proofs.Open.{shown_open}
use Rattle.keeper_sqlite.specs.Own.{IsTold, IsShutByFault}

pub on_ok : {A E : Type 0} {P : Type 0} (r : Result A E) → P → OnOk r P
on_ok (Ok a) h = h
on_ok (Err e) h = tt

is_or_not : (b : Bool) → IsTrue b ⊎ (b ≡ false)
is_or_not true = inl refl
is_or_not false = inr refl

-- a query that found a row leaves the connection open
pub queried_open : (sql : List ℕ) (params row : Row) (old new : State) → QueriesRow sql params old new (Ok row) → IsTrue new.is_open
unfolding QueriesRow
queried_open sql params row old new (inl h) = h.1.0.is_open
queried_open sql params row old new (inr h) = shown_open sql params old new h.0 h.1

module _ {S : Type 0} (g : Ghosts S) where
  -- a transaction that begins leaves the store as it is
  pub begun_open : (old new : Held S) → StaysOpen (state g (record old { in_transaction = true })) (state g new) → StaysOpen (state g old) (state g new)
  begun_open old new s = record { counts = s.counts; closes = s.closes }

  told_or_shut : (old new : Held S) (own : Bool) → StaysOpen (state g old) (state g new) → HasCleanDisk (state g new) → IsTold g old own → IsTold g new own ⊎ IsShutByFault g old new
  told_or_shut old new own stays clean told =
      elim (stays.closes clean told.1) [
        | inl is ↦ inl (clean, is, told.2)
        | inr more ↦ (elim (is_or_not (state g new).is_open) [ inl is ↦ inl (clean, is, told.2) | inr shut ↦ inr (shut, more) ])
      ]

  -- a call that left the connection in the keeper
  pub goes_on_telling : (old new : Held S) (own : Bool) (kept : Held S) (is_own : Bool) → StaysOpen (state g old) (state g new) → kept ≡ new → is_own ≡ own
      → HasCleanDisk (state g kept) → IsTold g old own → IsTold g kept is_own ⊎ IsShutByFault g old kept
  goes_on_telling old new own kept is_own stays is same clean told =
      subst (λ b. IsTold g kept b ⊎ IsShutByFault g old kept) (sym same)
      (subst (λ h. IsTold g h own ⊎ IsShutByFault g old h) (sym is) (told_or_shut old new own stays (subst (λ h. HasCleanDisk (state g h)) is clean) told))
