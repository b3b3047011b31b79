use Rattle.std.proofs.Common.{◌-◌, ◌<◌, ◌≤◌, ℕ, length}
use Rattle.services_run.specs.New.{IsRepeated}
use Rattle.services_run.proofs.placing.first_repeated.Given as goal

abbrev pub invariant-places : goal.invariant-places
invariant-places l = record { within : l.at ≤ length l.list; none : (i : ℕ) → i < l.at → ¬ (IsRepeated l.list i) }

abbrev pub decreases-places : goal.decreases-places
decreases-places l = length l.list - l.at
