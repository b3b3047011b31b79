use Rattle.std.proofs.Common.{◌+◌, length}
use Rattle.scope_names.proofs.Reach.{Search, universe, work}
use Rattle.scope_names.proofs.coverage.reach.Given as goal

abbrev pub invariant-loop-action : goal.invariant-loop-action
invariant-loop-action l = Search l.rows l.fn.from.items l.reached.keys l.pending.items

abbrev pub decreases-loop-action : goal.decreases-loop-action
decreases-loop-action l = work l.rows l.reached.keys (universe l.rows l.fn.from.items) + length l.pending.items
