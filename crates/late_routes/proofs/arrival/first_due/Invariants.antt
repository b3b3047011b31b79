use Rattle.std.proofs.Common.{◌≡◌, ◌<◌, ℕ, false, Some}
use Rattle.std.specs.Prelude.{slice_get}
use Rattle.late_routes.specs.declared.plan.Outstanding.{Outstanding}
use Rattle.late_routes.specs.Plans.{is_due}
use Rattle.late_routes.proofs.arrival.first_due.Given as goal

abbrev pub invariant-messages : goal.invariant-messages
invariant-messages l = (k : ℕ) (m : Outstanding) → k < l.at → slice_get l.messages k ≡ Some m → is_due l.number m ≡ false
