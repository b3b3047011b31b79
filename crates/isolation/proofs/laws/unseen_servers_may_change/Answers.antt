use Rattle.isolation.proofs.Unseen.{unseen_servers}
use Rattle.isolation.proofs.laws.unseen_servers_may_change.Goals as goal

pub returns : goal.returns
returns c = unseen_servers
