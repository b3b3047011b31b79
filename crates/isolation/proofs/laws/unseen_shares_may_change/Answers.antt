use Rattle.isolation.proofs.Unseen.{unseen_shares}
use Rattle.isolation.proofs.laws.unseen_shares_may_change.Goals as goal

pub returns : goal.returns
returns c = unseen_shares
