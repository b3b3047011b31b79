use Rattle.hub_view.proofs.records.token_body.Goals as goal

pub returns : goal.returns
returns c = c.into_body.ensures _ (c.add.ensures _ _ (c.add_token.ensures _ c.new-fields.ensures) c.user_of.ensures)
