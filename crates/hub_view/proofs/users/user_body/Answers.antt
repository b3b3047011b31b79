use Rattle.hub_view.proofs.users.user_body.Goals as goal

pub returns : goal.returns
returns g c = c.into_body.ensures _ (c.add_servers.ensures _ (c.add_user.ensures _ c.new-fields.ensures))
