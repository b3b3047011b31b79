use Rattle.std.proofs.Common.{◌∙◌}
use Rattle.scope_meet.proofs.GrantMeets.{meeting_none, meeting_more, all_rows_met}
use Rattle.scope_meet.proofs.NamesMet.{none_met}
use Rattle.scope_meet.proofs.meets.meet.Goals as goal

pub loop-action-init : goal.loop-action-init
loop-action-init g c =
    let m = g.M.Members.context c.args.members.now in
    let kept = c.none-groups.result in (
      meeting_none m c.args.b.now c.args.a.now c.new-both.result c.into_iter-action-iterator.result c.new-both.ensures (c.into_iter-action-iterator.ensures.into_iter_gives ∙ c.iter-action-items.ensures.items),
      none_met m kept.ours.items kept.theirs.items kept.met.items c.none-groups.ensures.ours c.none-groups.ensures.met,
    )

pub loop-action-preserved : goal.loop-action-preserved
loop-action-preserved g c = (
  meeting_more (g.M.Members.context c.args.members.now) c.args.b.now c.args.a.now (c.in-Some.action.now, c.in-Some.filters.now) c.loop-action.action-iterator c.next.new.self c.loop-action.both c.add_meets.new.both
      c.in-Some.ensures.steps c.in_ok-add_meets.ensures.met c.loop-action.invariant.0,
  c.add_meets.ensures.kept,
)

pub returns : goal.returns
returns g c = all_rows_met (g.M.Members.context c.args.members.now) c.args.b.now c.args.a.now c.loop-action.both c.loop-action.action-iterator c.in-None.ensures.steps.0 c.loop-action.invariant.0
