use Rattle.std.proofs.Common.{sym, ◌∙◌}
use Rattle.scope_meet.proofs.Rows.{left_none, left_more, all_inside, found_plain, first_outside}
use Rattle.scope_meet.proofs.inside.contained.Goals as goal

pub loop-action-init : goal.loop-action-init
loop-action-init g c =
    left_none (g.M.Members.context c.args.members.now) c.args.a.now c.args.b.now c.into_iter-action-iterator.result (c.into_iter-action-iterator.ensures.into_iter_gives ∙ c.iter-action-items.ensures.items)

pub has_object_outside-requires-clause-none : goal.has_object_outside-requires-clause-none
has_object_outside-requires-clause-none g c = c.in-Some-least_outside.ensures.1

pub has_object_outside-requires-clause-plain : goal.has_object_outside-requires-clause-plain
has_object_outside-requires-clause-plain g c =
    found_plain (g.M.Members.context c.args.members.now) c.args.a.now c.args.b.now (c.in-Some.action.now, c.in-Some.filters.now) c.loop-action.action-iterator c.next.new.self c.in-Some-least_outside.filter
    c.requires c.in-Some.ensures.steps c.loop-action.invariant c.in-Some-least_outside.ensures

pub returns-in-Some-least_outside : goal.returns-in-Some-least_outside
returns-in-Some-least_outside g c =
    first_outside (g.M.Members.context c.args.members.now) c.args.a.now c.args.b.now (c.in-Some.action.now, c.in-Some.filters.now) c.loop-action.action-iterator c.next.new.self c.in-Some-least_outside.filter
    c.in-Some.ensures.steps c.loop-action.invariant c.in-Some-least_outside.ensures c.has_object_outside.ensures

pub loop-action-preserved : goal.loop-action-preserved
loop-action-preserved g c =
    left_more (g.M.Members.context c.args.members.now) c.args.a.now c.args.b.now (c.in-Some.action.now, c.in-Some.filters.now) c.loop-action.action-iterator c.next.new.self
    c.in-Some.ensures.steps c.in-None-least_outside.ensures c.loop-action.invariant

pub returns : goal.returns
returns g c = all_inside (g.M.Members.context c.args.members.now) c.args.a.now c.args.b.now c.loop-action.action-iterator c.in-None.ensures.steps.0 c.loop-action.invariant
