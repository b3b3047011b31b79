use Rattle.std.proofs.Common.{rules}
use Rattle.services_run.proofs.QuietLemmas.{halt_down, halt_given_up}
use Rattle.services_run.proofs.visits.halt_one.Goals as goal

pub returns-in-Down-clause-visited : goal.returns-in-Down-clause-visited
returns-in-Down-clause-visited g c = halt_down _ _ _ _ (search rules)

pub returns-in-GivenUp-clause-visited : goal.returns-in-GivenUp-clause-visited
returns-in-GivenUp-clause-visited g c = halt_given_up _ _ _ _ (search rules)
