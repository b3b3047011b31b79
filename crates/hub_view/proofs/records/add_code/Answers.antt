use Rattle.std.proofs.Common.{ap}
use Rattle.hub_view.specs.Fields.{scope_lines}
use Rattle.hub_view.proofs.Chains.{retold, joined}
use Rattle.hub_view.proofs.records.add_code.Goals as goal

pub returns : goal.returns
returns c = λ x h.
    joined c.add-5.new.self x _ _ (c.add-5.ensures _ _ (joined c.add-4.new.self x _ _ (c.add-4.ensures _ _ (joined c.add-3.new.self x _ _ (c.add-3.ensures _ _
    (joined c.add-2.new.self x _ _ (c.add-2.ensures _ _ (c.add.ensures x _ h c.moment.ensures) c.moment-2.ensures))
    c.digits.ensures))
    (retold c.scopes.result _ _ c.scopes.ensures (ap scope_lines c.as_slice.ensures))))
    c.key_line.ensures)
