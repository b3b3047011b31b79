use Rattle.hub_tables.proofs.RowsAt.{own_tokens}
use Rattle.hub_core.proofs.Keys.{kept_at}
use Rattle.hub_core.proofs.caller.token_with.Goals as goal

pub returns-clause-kept : goal.returns-clause-kept
returns-clause-kept c = kept_at _ _ _ (own_tokens c.args.tables.now c.own_keys.ensures) c.token_of_hash.ensures
