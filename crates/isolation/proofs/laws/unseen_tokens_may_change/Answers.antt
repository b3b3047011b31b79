use Rattle.isolation.proofs.Unseen.{unseen_tokens}
use Rattle.isolation.proofs.laws.unseen_tokens_may_change.Goals as goal

pub returns : goal.returns
returns c = unseen_tokens
