use Rattle.hub_view.proofs.Tokens.{tokens_of_number}
use Rattle.hub_view.proofs.members.message_body.Goals as goal

pub returns : goal.returns
returns c = c.into_body.ensures _ (c.add-2.ensures _ _ (c.add.ensures _ _ c.new-fields.ensures c.line.ensures) (tokens_of_number c.args.status))
