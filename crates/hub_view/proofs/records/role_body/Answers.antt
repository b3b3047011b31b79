use Rattle.std.proofs.Common.{ap}
use Rattle.hub_view.specs.Fields.{scope_lines}
use Rattle.hub_view.proofs.Chains.{retold, spelled, named}
use Rattle.hub_view.proofs.records.role_body.Goals as goal

pub returns : goal.returns
returns c = c.into_body.ensures _ (c.add-5.ensures _ _ (c.add-4.ensures _ _ (c.add-3.ensures _ _ (c.add-2.ensures _ _ (c.add.ensures _ _ c.new-fields.ensures
    (named c.names.result _ _ c.names.ensures c.as_slice.ensures.keys))
    (spelled c.line.result _ _ c.line.ensures c.as_str.ensures.value))
    (retold c.scopes.result _ _ c.scopes.ensures (ap scope_lines c.as_slice-2.ensures)))
    (named c.names-2.result _ _ c.names-2.ensures c.as_slice-3.ensures.keys))
    (named c.names-3.result _ _ c.names-3.ensures c.as_slice-4.ensures.keys))
