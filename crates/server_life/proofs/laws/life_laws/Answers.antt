use Rattle.server_life.proofs.Rows.{fewer_owed, same_generation, stop_keeps_owed}
use Rattle.server_life.proofs.Ends.{ends, uses_up}
use Rattle.server_life.proofs.Chains.{never_ready, covered}
use Rattle.server_life.proofs.laws.life_laws.Goals as goal

pub returns-clause-ends : goal.returns-clause-ends
returns-clause-ends c = ends

pub returns-clause-never_ready : goal.returns-clause-never_ready
returns-clause-never_ready c = λ life later events asked apart each leads. never_ready life later events asked apart each leads

pub returns-clause-covered : goal.returns-clause-covered
returns-clause-covered c = λ life later events each leads. covered life later events each leads

pub returns-clause-used_up : goal.returns-clause-used_up
returns-clause-used_up c = uses_up

pub returns-clause-falls : goal.returns-clause-falls
returns-clause-falls c = fewer_owed

pub returns-clause-stays : goal.returns-clause-stays
returns-clause-stays c = stop_keeps_owed

pub returns-clause-generation : goal.returns-clause-generation
returns-clause-generation c = same_generation
