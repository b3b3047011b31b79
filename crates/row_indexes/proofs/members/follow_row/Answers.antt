use Rattle.std.proofs.Common.{◌∙◌, ap}
use Rattle.row_indexes.specs.Members.{members_in}
use Rattle.row_indexes.proofs.MemberRows.{row_followed}
use Rattle.row_indexes.proofs.members.follow_row.Goals as goal

pub returns : goal.returns
returns g c =
    row_followed g.M.Ord.cmp g.met.K.Ord.total g.met.K.Key.exact g.R.HasMembers.members_of c.args.key.now c.args.old.now _ _ _ _ _
    (c.members_or.ensures ∙ ap (members_in g.R.HasMembers.members_of) c.as_ref.ensures.value)
    (c.members_or-new.ensures ∙ ap (members_in g.R.HasMembers.members_of) c.row_at.ensures)
    c.follow.ensures
