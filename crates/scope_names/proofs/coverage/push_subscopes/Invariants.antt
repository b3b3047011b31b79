use Rattle.std.proofs.Common.{◌≡◌, ◌++◌, take}
use Rattle.std.specs.List.{flat_map}
use Rattle.scope_names.specs.Actions.{row_of}
use Rattle.scope_names.specs.Coverage.{declared_by}
use Rattle.scope_names.proofs.coverage.push_subscopes.Given as goal

abbrev pub invariant-loop-row : goal.invariant-loop-row
invariant-loop-row l = l.pending.items ≡ (l.fn.pending.items ++ (row_of l.action).subscopes) ++ flat_map (declared_by l.action) (take l.row-index l.rows)
