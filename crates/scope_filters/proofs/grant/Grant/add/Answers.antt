use Rattle.scope_filters.proofs.Admitted.{added_more}
use Rattle.scope_filters.proofs.grant.Grant.add.Goals as goal

pub returns-clause-admits : goal.returns-clause-admits
returns-clause-admits c = rw (← c.self.view_is) (added_more _ _ c.args.action c.args.filter c.add_filter.result c.add_filter.ensures.ok)
