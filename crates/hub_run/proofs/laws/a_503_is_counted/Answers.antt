use Rattle.hub_run.proofs.CompleteLemmas.{counted}
use Rattle.hub_run.proofs.FaultLemmas.{worked_503}
use Rattle.hub_run.proofs.RoutedLemmas.{routed_503}
use Rattle.hub_run.proofs.laws.a_503_is_counted.Goals as goal

pub returns-clause-visited : goal.returns-clause-visited
returns-clause-visited c = counted

pub returns-clause-worked : goal.returns-clause-worked
returns-clause-worked c = worked_503

pub returns-clause-routed : goal.returns-clause-routed
returns-clause-routed c = routed_503

pub returns-clause-undrawn : goal.returns-clause-undrawn
returns-clause-undrawn c = λ x y text request moves. moves.failed
