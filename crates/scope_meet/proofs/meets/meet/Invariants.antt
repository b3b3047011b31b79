use Rattle.scope_meet.specs.Meets.{AreGroupMeets}
use Rattle.scope_meet.proofs.GrantMeets.{Meeting}
use Rattle.scope_meet.proofs.meets.meet.Given as goal

abbrev pub invariant-loop-action : goal.invariant-loop-action
invariant-loop-action g l =
    let context = g.M.Members.context l.members in
    Meeting context l.b l.a l.action-iterator l.both × AreGroupMeets context l.groups.ours.items l.groups.theirs.items l.groups.met.items
