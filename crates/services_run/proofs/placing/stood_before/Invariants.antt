use Rattle.std.proofs.Common.{◌-◌, ◌<◌, ◌≤◌, ℕ}
use Rattle.services_run.specs.New.{ClashAt}
use Rattle.services_run.proofs.placing.stood_before.Given as goal

abbrev pub invariant-befores : goal.invariant-befores
invariant-befores l = record { within : l.before ≤ l.at; none : (j : ℕ) → j < l.before → ¬ (ClashAt l.list j l.at) }

abbrev pub decreases-befores : goal.decreases-befores
decreases-befores l = l.at - l.before
