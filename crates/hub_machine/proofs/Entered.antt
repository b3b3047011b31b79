-- What a change that was carried out leaves.
use Rattle.std.proofs.Common.{◌≡◌, Bool, true, false, List, Ok, sym, ap, ◌∙◌}
use Rattle.std.specs.Prelude.{if◌then◌else◌}
use Rattle.std.specs.declared.alloc.AllocError.{AllocError}
use Rattle.hub_rows.specs.declared.changes.RowChange.{RowChange}
use Rattle.hub_tables.specs.State.{State}
use Rattle.hub_machine.specs.Apply.{apply, change_done}
use Rattle.hub_machine.specs.Carry.{RowsDone}
use Rattle.hub_machine.specs.State.{Hub}
use Rattle.hub_machine.specs.declared.change.Change.{Change}

true_false : true ≡ false → ⊥
true_false e = cc

module _ (c : Change) (s s' : Hub) (done : Bool) (h : s' ≡ (if done then apply c s else s)) where
  pub applied : done ≡ true → s' ≡ apply c s
  applied e = h ∙ ap (λ b. if b then apply c s else s) e

  pub unchanged : done ≡ false → s' ≡ s
  unchanged e = h ∙ ap (λ b. if b then apply c s else s) e

-- refused rows are not done
pub not_done : (rows : List RowChange) (done : Bool) (t t' : State) → RowsDone {E = AllocError} rows (Ok done) t t' → done ≡ false → t' ≡ t
not_done rows true t t' h e = absurd (true_false e)
not_done rows false t t' h e = h

pub is_done : (rows : List RowChange) (done : Bool) (t t' : State) → RowsDone {E = AllocError} rows (Ok done) t t' → done ≡ true → t' ≡ change_done rows t
is_done rows true t t' h e = h
is_done rows false t t' h e = absurd (true_false (sym e))
