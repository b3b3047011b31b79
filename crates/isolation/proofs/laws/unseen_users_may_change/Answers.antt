use Rattle.isolation.proofs.Unseen.{unseen}
use Rattle.isolation.proofs.laws.unseen_users_may_change.Goals as goal

pub returns : goal.returns
returns c = unseen
