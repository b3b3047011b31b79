use Rattle.std.proofs.Common.{ℕ, ◌<◌}
use Rattle.scope_names.specs.Refusals.{HasUnknown}
use Rattle.scope_names.proofs.table.first_unknown.Given as goal

abbrev pub invariant-loop-i : goal.invariant-loop-i
invariant-loop-i l = (j : ℕ) → j < l.i → ¬ (HasUnknown l.rows j)
