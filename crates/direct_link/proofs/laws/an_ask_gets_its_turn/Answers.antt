use Rattle.direct_link.proofs.Turned.{turn_comes}
use Rattle.direct_link.proofs.laws.an_ask_gets_its_turn.Goals as goal

pub returns : goal.returns
returns c = turn_comes
