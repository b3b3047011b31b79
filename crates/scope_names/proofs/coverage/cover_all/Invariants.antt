use Rattle.std.proofs.Common.{take}
use Rattle.scope_names.proofs.Cover.{Covered}
use Rattle.scope_names.proofs.coverage.cover_all.Given as goal

abbrev pub invariant-loop-action : goal.invariant-loop-action
invariant-loop-action l = Covered l.rows l.covered (take l.action-index l.action-items)
