use Rattle.scope_meet.proofs.groups.has_user.Goals as goal

pub returns : goal.returns
returns c = c.is_among.ensures
