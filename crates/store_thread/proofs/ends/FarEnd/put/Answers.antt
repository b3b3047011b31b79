use Rattle.std.proofs.Common.{rules}
use Rattle.store_thread.proofs.Posting.{puts}
use Rattle.store_thread.proofs.ends.FarEnd.put.Goals as goal

pub try_push_as-requires-clause-rule : goal.try_push_as-requires-clause-rule
try_push_as-requires-clause-rule g c = puts _ _ _ _ (search rules) c.self.invariant.2 c.self.invariant.3 (c.self.invariant.4 c.if-self.false)
