use Rattle.hub_tables.proofs.Kept.{empty_kept}
use Rattle.hub_tables.proofs.tables.Tables.new.Goals as goal

pub invariant_of-result : goal.invariant_of-result
invariant_of-result c = empty_kept c.new.result c.new.ensures
