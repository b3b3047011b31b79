use Rattle.std.proofs.Common.{ap, ◌∙◌}
use Rattle.scope_filters.specs.Scopes.{scope_text}
use Rattle.hub_view.specs.Json.{line}
use Rattle.hub_view.proofs.Items.{one_more, all_made}
use Rattle.hub_view.proofs.Tokens.{tokens_of_line, tokens_of_items}
use Rattle.hub_view.proofs.parts.scopes.Goals as goal

pub loop-scope-preserved : goal.loop-scope-preserved
loop-scope-preserved c =
    one_more scope_text c.args.scopes.now c.loop-scope.scope-index c.scope-item.result c.loop-scope.items.items c.push.new.self.items _
    c.loop-scope-test.true c.scope-item.is c.in_ok-push.ensures.items
    (tokens_of_line c.in_ok-scope_text.field-0 ∙ ap line c.in_ok-scope_text.ensures.text)
    c.loop-scope.invariant

pub returns : goal.returns
returns c =
    tokens_of_items c.loop-scope.items
    ∙ all_made scope_text c.args.scopes.now c.loop-scope.scope-index c.loop-scope.items.items c.loop-scope-test.false c.loop-scope.invariant
