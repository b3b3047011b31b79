use Rattle.std.proofs.Common.{◌+◌, ◌≤◌, ℕ, subst}
use Rattle.hub_machine.specs.State.{AreLeased, AreApart, opening_next}
use Rattle.hub_machine.proofs.machine.Machine.are_leased.Goals as goal

pub returns : goal.returns
returns c = subst AreLeased c.self.view_is (record {
  pool = c.are_apart.ensures.pool;
  apart = subst (λ (n : ℕ). AreApart c.self.inside.lives.pool c.self.inside.lives.lives n) c.self.invariant.1 c.are_apart.ensures.apart;
  kept = c.self.invariant.2;
  few = subst (λ (n : ℕ). n ≤ opening_next c.self.inside.lives.pool + c.self.inside.length) c.self.invariant.1 c.self.invariant.3;
})
