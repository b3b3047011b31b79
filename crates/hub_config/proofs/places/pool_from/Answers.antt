use Rattle.hub_config.proofs.Pools.{pool_made}
use Rattle.hub_config.proofs.places.pool_from.Goals as goal

pub returns : goal.returns
returns c = pool_made c.args.targets _ c.new.ensures
