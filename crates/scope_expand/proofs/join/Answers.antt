use Rattle.scope_expand.proofs.Joins.{joined_admits, joined_plain}
use Rattle.scope_expand.proofs.join.Goals as goal

pub returns-clause-admits : goal.returns-clause-admits
returns-clause-admits c = joined_admits c.args.into.now c.args.other.now c.in_ok-grant.grant c.in_ok-grant.ensures

pub returns-clause-owners : goal.returns-clause-owners
returns-clause-owners c = joined_plain c.args.into.now c.args.other.now c.in_ok-grant.grant c.in_ok-grant.ensures
