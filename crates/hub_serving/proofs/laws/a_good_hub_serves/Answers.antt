use Rattle.hub_serving.proofs.GoodHubs.{run_good}
use Rattle.hub_serving.proofs.laws.a_good_hub_serves.Goals as goal

pub returns : goal.returns
returns g c = run_good g.K.Keeper.Tells g.K.Keeper.rows g.K.Keeper.faults _ g.K.Keeper.Chooses
