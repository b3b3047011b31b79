use Rattle.hub_view.proofs.groups.service_body.Goals as goal

pub returns : goal.returns
returns g c = c.into_body.ensures _ (c.add_service.ensures _ c.new-fields.ensures)
