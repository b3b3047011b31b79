use Rattle.store_thread.proofs.Posting.{hears}
use Rattle.store_thread.proofs.ends.FarEnd.hear.Goals as goal

pub try_pop_as-requires-clause-rule : goal.try_pop_as-requires-clause-rule
try_pop_as-requires-clause-rule g c = hears _ _ c.self.invariant.2 c.self.invariant.3
