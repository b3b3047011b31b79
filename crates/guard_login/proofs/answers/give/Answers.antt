use Rattle.std.proofs.Common.{◌∙◌, inl, inr}
use Rattle.guard_login.proofs.LoginLemmas.{writes_as}
use Rattle.guard_login.proofs.answers.give.Goals as goal

pub returns-in-Ok-clause-gives : goal.returns-in-Ok-clause-gives
returns-in-Ok-clause-gives g c = inl (writes_as _ _ _ _ _ _ _ _ (c.as_slice.ensures ∙ c.in-Ok.ensures) c.write.ensures.written)

pub returns-in-Err-clause-gives : goal.returns-in-Err-clause-gives
returns-in-Err-clause-gives g c = inr c.want.ensures.written
