use Rattle.std.proofs.Common.{ap, ◌∙◌}
use Rattle.hub_view.specs.Json.{truth}
use Rattle.hub_view.proofs.Chains.{spelled}
use Rattle.hub_view.proofs.servers.server_body.Goals as goal

pub returns : goal.returns
returns c = c.into_body.ensures _ (c.add-6.ensures _ _ (c.add-5.ensures _ _ (c.add-4.ensures _ _ (c.add-3.ensures _ _ (c.add-2.ensures _ _
    (c.add.ensures _ _ c.new-fields.ensures c.moment_or_null-last_activity.ensures)
    (spelled c.line.result _ _ c.line.ensures c.as_str.ensures.value))
    c.pending.ensures)
    (c.truth.ensures ∙ ap truth c.is_ready.ensures))
    c.moment_or_null.ensures)
    c.url_line.ensures)
