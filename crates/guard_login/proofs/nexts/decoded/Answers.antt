use Rattle.std.proofs.Common.{◌≡◌, ℕ, List, Result, IfOk, inl, inr, refl, sym, subst}
use Rattle.hex.specs.declared.error.FromHexError.{FromHexError}
use Rattle.guard_login.specs.Nexts.{allowed}
use Rattle.guard_login.proofs.nexts.decoded.Goals as goal

pub returns-in-Ok : goal.returns-in-Ok
returns-in-Ok c =
    subst (λ (d : Result (List ℕ) FromHexError). IfOk c.allowed.result (λ next. next ≡ allowed c.args.base.now d)) (sym c.in-Ok.ensures.ok)
    (rw c.as_slice.ensures.value at c.allowed.ensures)

pub returns-in_default : goal.returns-in_default
returns-in_default c =
    elim c.in-Err.ensures.err [
      | inl is ↦ absurd (c.in_default.not-OutOfMemory is)
      | inr is ↦ rw is refl
    ]
