use Rattle.guard_login.proofs.answers.want.Goals as goal

pub returns-clause-written : goal.returns-clause-written
returns-clause-written g c = (c.refuse.result, c.refuse.ensures.written, c.signing.ensures)
