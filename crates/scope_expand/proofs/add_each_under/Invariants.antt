use Rattle.std.proofs.Common.{take}
use Rattle.std.specs.List.{flat_map}
use Rattle.scope_expand.specs.Meaning.{under}
use Rattle.scope_expand.specs.Covering.{CoversMore}
use Rattle.scope_expand.proofs.add_each_under.Given as goal

abbrev pub invariant-loop-action : goal.invariant-loop-action
invariant-loop-action l = CoversMore l.table l.fn.grant (flat_map (λ a. under a l.filter) (take l.action-index l.actions)) l.grant
