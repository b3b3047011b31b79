use Rattle.isolation.proofs.Unseen.{unseen_others}
use Rattle.isolation.proofs.laws.other_rows_are_not_seen.Goals as goal

pub returns : goal.returns
returns c = unseen_others
