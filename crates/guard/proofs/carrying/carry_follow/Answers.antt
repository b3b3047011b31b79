use Rattle.std.proofs.Common.{[], refl}
use Rattle.guard.proofs.CarryingLemmas.{carry_by}
use Rattle.guard.proofs.carrying.carry_follow.Goals as goal

pub returns-in-Pass-clause-ends : goal.returns-in-Pass-clause-ends
returns-in-Pass-clause-ends g c =
    let carried = c.carry.ensures.ends in
    (carried.0, carry_by _ _ _ _ _ _ _ _ c.in-Pass.is carried.1)

pub returns-in-Deny-clause-ends : goal.returns-in-Deny-clause-ends
returns-in-Deny-clause-ends g c = (
  [],
  carry_by _ _ _ _ _ _ _ _ c.in-Deny.is (record { left = refl; kept = refl; told = refl }, c.deny.result, c.one_of.ensures, c.deny.ensures.written),
)

pub returns-in-Memory-clause-ends : goal.returns-in-Memory-clause-ends
returns-in-Memory-clause-ends g c = (
  [],
  carry_by _ _ _ _ _ _ _ _ c.in-Memory.is (record { left = refl; kept = refl; told = refl }, c.refuse.result, c.one_of-in-Memory.ensures, c.refuse.ensures.written),
)
