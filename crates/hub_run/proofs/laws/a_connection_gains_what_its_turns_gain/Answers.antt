use Rattle.hub_run.proofs.GainLemmas.{turn_gains, turns_gain}
use Rattle.hub_run.proofs.laws.a_connection_gains_what_its_turns_gain.Goals as goal

pub returns-clause-turn : goal.returns-clause-turn
returns-clause-turn c = turn_gains

pub returns-clause-turns : goal.returns-clause-turns
returns-clause-turns c = λ x y turns. turns_gain x y turns
