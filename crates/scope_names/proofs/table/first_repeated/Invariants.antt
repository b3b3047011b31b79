use Rattle.std.proofs.Common.{ℕ, ◌<◌}
use Rattle.scope_names.specs.Refusals.{Repeats}
use Rattle.scope_names.proofs.table.first_repeated.Given as goal

abbrev pub invariant-loop-i : goal.invariant-loop-i
invariant-loop-i l = (j : ℕ) → j < l.i → ¬ (Repeats l.rows j)
