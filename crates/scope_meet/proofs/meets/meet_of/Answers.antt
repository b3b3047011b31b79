use Rattle.std.proofs.Common.{sym, ◌∙◌}
use Rattle.scope_meet.proofs.Pairs.{first_meets, second_meets, owner_meets}
use Rattle.scope_meet.proofs.meets.meet_of.Goals as goal

pub returns-then-is_within : goal.returns-then-is_within
returns-then-is_within g c = first_meets c.args.action.now (g.M.Members.context c.args.members.now) c.args.f.now c.args.g.now (sym c.is_within.ensures ∙ c.if-is_within.true)

pub returns-then-is_within-2 : goal.returns-then-is_within-2
returns-then-is_within-2 g c = second_meets c.args.action.now (g.M.Members.context c.args.members.now) c.args.f.now c.args.g.now (sym c.is_within-2.ensures ∙ c.if-is_within-2.true)

pub returns : goal.returns
returns g c =
    owner_meets c.args.action.now (g.M.Members.context c.args.members.now) c.args.f.now c.args.g.now c.owner_of_both.result c.owner_of_both.ensures.servers c.owner_of_both.ensures.others
    (sym c.is_within.ensures ∙ c.if-is_within.false) (sym c.is_within-2.ensures ∙ c.if-is_within-2.false) c.requires
