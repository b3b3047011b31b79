use Rattle.std.proofs.Common.{ℕ, ◌<◌}
use Rattle.std.specs.Bool.{IsFalse}
use Rattle.std.specs.List.{slice_get}
use Rattle.std.specs.Option.{IsSomeAnd}
use Rattle.scope_names.specs.Refusals.{is_declared}
use Rattle.scope_names.proofs.table.first_unknown_of.Given as goal

abbrev pub invariant-loop-k : goal.invariant-loop-k
invariant-loop-k l = (j : ℕ) → j < l.k → ¬ (IsSomeAnd (slice_get l.names j) (λ name. IsFalse (is_declared name l.rows)))
