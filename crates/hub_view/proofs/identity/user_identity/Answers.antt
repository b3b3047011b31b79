use Rattle.hub_view.proofs.identity.user_identity.Goals as goal

pub returns : goal.returns
returns g c = c.into_body.ensures _ (c.add_servers.ensures _ (c.add.ensures _ _ (c.add_user.ensures _ c.access-fields.ensures) c.scopes.ensures))
