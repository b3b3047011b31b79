use Rattle.isolation.proofs.Unseen.{unseen_codes}
use Rattle.isolation.proofs.laws.unseen_codes_may_change.Goals as goal

pub returns : goal.returns
returns c = unseen_codes
