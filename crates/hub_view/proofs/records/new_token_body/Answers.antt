use Rattle.hub_view.specs.Records.{token_members}
use Rattle.hub_view.proofs.Chains.{joined}
use Rattle.hub_view.proofs.records.new_token_body.Goals as goal

pub returns : goal.returns
returns c = c.into_body.ensures _ (joined c.add-2.new.self (token_members c.args.token.now) _ _ (c.add-2.ensures _ _ (c.add.ensures _ _
    (c.add_token.ensures _ c.new-fields.ensures) c.line.ensures) c.user_of.ensures))
