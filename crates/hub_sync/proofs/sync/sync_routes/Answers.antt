use Rattle.hub_sync.proofs.sync.sync_routes.Goals as goal

pub returns-clause-told : goal.returns-clause-told
returns-clause-told g c = c.sync_with.ensures.told
