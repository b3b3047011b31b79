use Rattle.row_rules.proofs.Marks.{none_seen}
use Rattle.row_rules.proofs.seen.Seen.new.Goals as goal

pub returns : goal.returns
returns c = none_seen _ c.new.ensures.empty c.new-2.ensures.empty c.new-3.ensures.empty
