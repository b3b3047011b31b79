use Rattle.scope_expand.proofs.Joins.{adding_more, all_added}
use Rattle.scope_expand.proofs.add_filters.Goals as goal

pub loop-filter-preserved : goal.loop-filter-preserved
loop-filter-preserved c =
    adding_more c.args.into.now c.args.action.now c.args.filters.now c.in-Some.filter.now c.loop-filter.filter-iterator c.next.new.self c.loop-filter.into c.add.new.self
    c.in-Some.ensures.steps c.in_ok-add.ensures.ok c.loop-filter.invariant

pub returns : goal.returns
returns c = all_added c.args.into.now c.args.action.now c.args.filters.now c.loop-filter.filter-iterator c.loop-filter.into c.in-None.ensures.steps.0 c.loop-filter.invariant
