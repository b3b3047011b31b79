use Rattle.std.proofs.Common.{ap}
use Rattle.hub_view.specs.Fields.{scope_lines}
use Rattle.hub_view.specs.Records.{token_members}
use Rattle.hub_view.proofs.Chains.{retold, spelled, joined}
use Rattle.hub_view.proofs.records.add_token.Goals as goal

pub returns : goal.returns
unfolding token_members
returns c = λ x h.
    joined c.add-7.new.self x _ _ (c.add-7.ensures _ _ (joined c.add-6.new.self x _ _ (c.add-6.ensures _ _ (joined c.add-5.new.self x _ _ (c.add-5.ensures _ _
    (joined c.add-4.new.self x _ _ (c.add-4.ensures _ _ (joined c.add-3.new.self x _ _ (c.add-3.ensures _ _
    (joined c.add-2.new.self x _ _ (c.add-2.ensures _ _ (c.add.ensures x _ h c.moment.ensures) c.moment_or_null.ensures))
    c.digits.ensures))
    c.fixed.ensures))
    (spelled c.line.result _ _ c.line.ensures c.as_str.ensures)))
    c.line_or_null.ensures))
    (retold c.scopes.result _ _ c.scopes.ensures (ap scope_lines c.as_slice.ensures)))
