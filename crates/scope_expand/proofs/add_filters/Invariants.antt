use Rattle.scope_expand.proofs.Joins.{Adding}
use Rattle.scope_expand.proofs.add_filters.Given as goal

-- what is there, and what is still to be added, is all
abbrev pub invariant-loop-filter : goal.invariant-loop-filter
invariant-loop-filter l = Adding l.fn.into l.action l.filters l.filter-iterator l.into
