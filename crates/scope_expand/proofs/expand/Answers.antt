use Rattle.scope_expand.proofs.Meanings.{expanded, expanded_plain}
use Rattle.scope_expand.proofs.expand.Goals as goal

pub returns-clause-admits : goal.returns-clause-admits
returns-clause-admits c = expanded c.args.table.now c.args.scopes.now c.args.holder.now c.grant_of.result c.grant_of.ensures

pub returns-clause-owners : goal.returns-clause-owners
returns-clause-owners c = expanded_plain c.args.table.now c.args.scopes.now c.args.holder.now c.grant_of.result c.grant_of.ensures
