use Rattle.token_store.proofs.Within.{of_asked}
use Rattle.token_store.proofs.issuing.within.Goals as goal

pub returns : goal.returns
returns c =
    of_asked c.args.tables.now c.args.rights.now _ c.args.owner.now c.args.scopes.now c.scope_table.result.now c.scope_table.ensures
    c.in_ok-asked.ensures.admits c.in_ok-asked.ensures.rows c.contained.result c.contained.ensures
