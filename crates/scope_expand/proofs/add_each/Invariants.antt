use Rattle.std.proofs.Common.{◌≡◌, Bool, ◌&&◌, ◌||◌, take}
use Rattle.scope_names.specs.declared.action.Action.{Action}
use Rattle.scope_names.specs.Coverage.{is_among}
use Rattle.scope_filters.specs.declared.filter.Filter.{Filter}
use Rattle.scope_expand.specs.Passes.{passes}
use Rattle.scope_expand.proofs.add_each.Given as goal

abbrev pub invariant-loop-action : goal.invariant-loop-action
invariant-loop-action l = (p : Filter → Bool) (a : Action) → passes p l.grant a ≡ (passes p l.fn.grant a || (is_among a (take l.action-index l.actions) && p l.filter))
