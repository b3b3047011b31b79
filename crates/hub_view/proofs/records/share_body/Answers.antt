use Rattle.std.proofs.Common.{ap}
use Rattle.hub_view.specs.Fields.{scope_lines}
use Rattle.hub_view.proofs.Chains.{retold}
use Rattle.hub_view.proofs.records.share_body.Goals as goal

pub returns : goal.returns
returns c = c.into_body.ensures _ (c.add-5.ensures _ _ (c.add-4.ensures _ _ (c.add-3.ensures _ _ (c.add-2.ensures _ _ (c.add.ensures _ _ c.new-fields.ensures
    c.moment.ensures)
    c.group_to.ensures)
    (retold c.scopes.result _ _ c.scopes.ensures (ap scope_lines c.as_slice.ensures.scopes)))
    c.key_line.ensures)
    c.user_to.ensures)
