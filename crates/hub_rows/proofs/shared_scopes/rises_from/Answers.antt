use Rattle.std.proofs.Common.{sym, ◌∙◌}
use Rattle.keyed_rows.proofs.Walks.{risen, rises_on, stays}
use Rattle.hub_rows.specs.SharedScopes.{scope_cmp}
use Rattle.hub_rows.proofs.shared_scopes.rises_from.Goals as goal

pub returns-then-not-below : goal.returns-then-not-below
returns-then-not-below c =
    stays scope_cmp c.args.scopes.now c.loop-scope.scope-index c.loop-scope.last.now _ c.loop-scope.invariant c.scope-item.result c.loop-scope-test.true c.scope-item.is (sym c.in_ok-below.ensures ∙ c.if-not-below.true)

pub loop-scope-preserved : goal.loop-scope-preserved
loop-scope-preserved c =
    rises_on scope_cmp c.args.scopes.now c.loop-scope.scope-index c.loop-scope.last.now _ c.loop-scope.invariant c.scope-item.result c.loop-scope-test.true c.scope-item.is (sym c.in_ok-below.ensures ∙ c.if-not-below.false)

pub returns : goal.returns
returns c = risen scope_cmp c.args.scopes.now c.loop-scope.scope-index c.loop-scope.last.now _ c.loop-scope.invariant c.loop-scope-test.false
