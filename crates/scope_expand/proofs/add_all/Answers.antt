use Rattle.std.proofs.Common.{◌∙◌}
use Rattle.scope_expand.proofs.Joins.{joining_none, joining_more, all_joined}
use Rattle.scope_expand.proofs.add_all.Goals as goal

pub loop-action-init : goal.loop-action-init
loop-action-init c = joining_none c.args.into.now c.args.other.now c.into_iter-action-iterator.result (c.into_iter-action-iterator.ensures.into_iter_gives ∙ c.iter-action-items.ensures.items)

pub loop-action-preserved : goal.loop-action-preserved
loop-action-preserved c =
    joining_more c.args.into.now c.args.other.now (c.in-Some.action.now, c.in-Some.filters.now) c.loop-action.action-iterator c.next.new.self c.loop-action.into c.add_filters.new.into
    c.in-Some.ensures.steps c.in_ok-add_filters.ensures c.loop-action.invariant

pub returns : goal.returns
returns c = all_joined c.args.into.now c.args.other.now c.loop-action.action-iterator c.loop-action.into c.in-None.ensures.steps.0 c.loop-action.invariant
