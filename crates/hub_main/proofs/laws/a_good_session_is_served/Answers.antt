use Rattle.hub_main.proofs.GoodSessions.{run_good}
use Rattle.hub_main.proofs.laws.a_good_session_is_served.Goals as goal

pub returns : goal.returns
returns g c = run_good g.K.Keeper.Tells g.K.Keeper.rows g.K.Keeper.faults g.K.Keeper.Chooses
