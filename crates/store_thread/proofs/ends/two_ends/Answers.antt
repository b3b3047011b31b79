use Rattle.std.proofs.Common.{rules}
use Rattle.store_thread.proofs.Posting.{begins, forks}
use Rattle.store_thread.proofs.ends.two_ends.Goals as goal

pub ruled-requires-clause-rule : goal.ruled-requires-clause-rule
ruled-requires-clause-rule g c = begins

pub another-answers-requires-clause-rule : goal.another-answers-requires-clause-rule
another-answers-requires-clause-rule g c = forks _ _ (search rules) (search rules)
