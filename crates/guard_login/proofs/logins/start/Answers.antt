use Rattle.std.proofs.Common.{Some, None, ◌∙◌, inl, inr}
use Rattle.guard_login.proofs.LoginLemmas.{writes_as}
use Rattle.guard_login.proofs.logins.start.Goals as goal

pub returns-in-Ok-start_text-clause-starts : goal.returns-in-Ok-start_text-clause-starts
returns-in-Ok-start_text-clause-starts g c = (
  Some c.in-Ok.draw,
  c.in-Ok.ensures.takes,
  inl (writes_as _ _ _ _ _ _ _ _ (c.as_slice.ensures ∙ c.in-Ok-start_text.ensures) c.write.ensures.written),
)

pub returns-in-Err-start_text-clause-starts : goal.returns-in-Err-start_text-clause-starts
returns-in-Err-start_text-clause-starts g c = (Some c.in-Ok.draw, c.in-Ok.ensures.takes, inr c.want.ensures.written)

pub returns-in-Err-clause-starts : goal.returns-in-Err-clause-starts
returns-in-Err-clause-starts g c = (None, (c.in-Err.ensures.kept, c.in-Err.ensures.cause), c.deny.ensures.written)
