use Rattle.std.proofs.Common.{◌≡◌}
use Rattle.std.specs.Prelude.{fold}
use Rattle.hub_opening.specs.Adopting.{FitInTurn, with_lease}
use Rattle.hub_opening.proofs.adopting.adopt_all.Given as goal

abbrev pub invariant-loop-lease : goal.invariant-loop-lease
invariant-loop-lease l = record {
  folded : fold with_lease l.lives l.lease-iterator ≡ fold with_lease l.fn.lives l.initial.lease-iterator;
  fits : FitInTurn l.lives l.lease-iterator;
}
