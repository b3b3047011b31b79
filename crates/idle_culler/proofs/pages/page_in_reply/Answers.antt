use Rattle.std.proofs.Common.{Some, sym, ◌∙◌}
use Rattle.idle_culler.proofs.pages.page_in_reply.Goals as goal

pub returns-in-Ok-Ok-clause-ok : goal.returns-in-Ok-Ok-clause-ok
returns-in-Ok-Ok-clause-ok c =
    (Some (c.in-Some.status, c.in-Some.body.now), c.in-Some.ensures.some, sym c.in-Ok-Ok.ensures.said ∙ c.in-Ok-Ok.field-0-is)

pub returns-in-Ok-Err-clause-err : goal.returns-in-Ok-Err-clause-err
returns-in-Ok-Err-clause-err c =
    (Some (c.in-Some.status, c.in-Some.body.now), c.in-Some.ensures.some, sym c.in-Ok-Err.ensures.said ∙ c.in-Ok-Err.field-0-is)
