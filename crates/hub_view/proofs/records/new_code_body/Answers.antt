use Rattle.hub_view.proofs.records.new_code_body.Goals as goal

pub returns : goal.returns
returns c = c.into_body.ensures _ (c.add_code.ensures _ (c.add.ensures _ _ c.new-fields.ensures c.line.ensures))
