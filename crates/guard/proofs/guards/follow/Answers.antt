use Rattle.std.proofs.Common.{[], refl}
use Rattle.guard.proofs.GuardLemmas.{follows_by}
use Rattle.guard.proofs.guards.follow.Goals as goal

pub returns-in-Pass-clause-ends : goal.returns-in-Pass-clause-ends
returns-in-Pass-clause-ends g c =
    let passed = c.pass_on.ensures.ends in
    (passed.0, follows_by _ _ _ _ _ _ _ c.in-Pass.is passed.1)

pub returns-in-Deny-clause-ends : goal.returns-in-Deny-clause-ends
returns-in-Deny-clause-ends g c =
    ([], follows_by _ _ _ _ _ _ _ c.in-Deny.is (record { left = refl; kept = refl; told = refl }, c.deny.ensures.written))

pub returns-in-Memory-clause-ends : goal.returns-in-Memory-clause-ends
returns-in-Memory-clause-ends g c =
    ([], follows_by _ _ _ _ _ _ _ c.in-Memory.is (record { left = refl; kept = refl; told = refl }, c.refuse.ensures.written))
