use Rattle.std.proofs.Common.{take}
use Rattle.std.specs.FinMap.{empty}
use Rattle.scope_expand.specs.Meaning.{plain_scopes}
use Rattle.scope_expand.specs.Covering.{CoversMore}
use Rattle.scope_expand.proofs.grant_of.Given as goal

abbrev pub invariant-loop-scope : goal.invariant-loop-scope
invariant-loop-scope l = CoversMore l.table empty (plain_scopes (take l.scope-index l.scopes) l.holder) l.grant
