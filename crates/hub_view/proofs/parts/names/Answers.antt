use Rattle.std.proofs.Common.{ap, ◌∙◌}
use Rattle.hub_view.specs.Json.{line}
use Rattle.hub_view.proofs.Items.{one_more, all_made}
use Rattle.hub_view.proofs.Tokens.{tokens_of_items}
use Rattle.hub_view.proofs.parts.names.Goals as goal

pub loop-name-preserved : goal.loop-name-preserved
loop-name-preserved g c =
    one_more g.N.Name.text c.args.names.now c.loop-name.name-index c.name-item.result c.loop-name.items.items c.push.new.self.items
    c.in_ok-line.field-0 c.loop-name-test.true c.name-item.is c.in_ok-push.ensures.items (c.in_ok-line.ensures ∙ ap line c.text.ensures)
    c.loop-name.invariant

pub returns : goal.returns
returns g c =
    tokens_of_items c.loop-name.items
    ∙ all_made g.N.Name.text c.args.names.now c.loop-name.name-index c.loop-name.items.items c.loop-name-test.false c.loop-name.invariant
