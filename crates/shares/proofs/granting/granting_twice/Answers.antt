use Rattle.shares.proofs.Twice.{granted_twice}
use Rattle.shares.proofs.granting.granting_twice.Goals as goal

pub returns : goal.returns
returns c = granted_twice
