use Rattle.store_thread.proofs.Posting.{takes}
use Rattle.store_thread.proofs.ends.NearEnd.take.Goals as goal

pub try_pop_as-requires-clause-rule : goal.try_pop_as-requires-clause-rule
try_pop_as-requires-clause-rule g c = takes _ _ c.self.invariant.2 c.self.invariant.3
