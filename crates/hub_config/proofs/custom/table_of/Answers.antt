use Rattle.hub_opening.proofs.Scopes.{never_both}
use Rattle.hub_config.proofs.custom.table_of.Goals as goal

pub returns-else-is_memory : goal.returns-else-is_memory
returns-else-is_memory c = record {
  some = tt;
  none = λ _. never_both c.args.rows.now c.in-Err.error (c.is_memory.ensures c.if-is_memory.false) c.in-Err.ensures;
  err = tt;
}
