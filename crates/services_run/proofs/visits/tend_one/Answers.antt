use Rattle.std.proofs.Common.{rules}
use Rattle.services_run.proofs.QuietLemmas.{tend_tired, tend_given_up}
use Rattle.services_run.proofs.visits.tend_one.Goals as goal

pub returns-else-place-lt5-clause-visited : goal.returns-else-place-lt5-clause-visited
returns-else-place-lt5-clause-visited g c = tend_tired _ _ _ _ _ (search rules) (search rules)

pub returns-in-GivenUp-clause-visited : goal.returns-in-GivenUp-clause-visited
returns-in-GivenUp-clause-visited g c = tend_given_up _ _ _ _ _ (search rules)
