use Rattle.std.proofs.Common.{◌≡◌, ◌++◌, map, take}
use Rattle.scope_names.specs.declared.action.Action.TheVariants.{Custom}
use Rattle.scope_names.specs.Actions.{listed}
use Rattle.scope_names.proofs.coverage.known.Given as goal

abbrev pub invariant-loop-row : goal.invariant-loop-row
invariant-loop-row l = l.actions.items ≡ listed ++ map (λ row. Custom row.name) (take l.row-index l.rows)
