use Rattle.std.proofs.Common.{ℕ, ◌<◌}
use Rattle.scope_names.specs.Refusals.{IsOnCycle}
use Rattle.scope_names.proofs.table.first_on_cycle.Given as goal

abbrev pub invariant-loop-i : goal.invariant-loop-i
invariant-loop-i l = (j : ℕ) → j < l.i → ¬ (IsOnCycle l.rows j)
