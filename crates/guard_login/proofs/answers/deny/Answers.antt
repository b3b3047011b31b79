use Rattle.guard_login.proofs.answers.deny.Goals as goal

pub returns-clause-written : goal.returns-clause-written
returns-clause-written g c = (c.deny.result, c.deny.ensures.written, c.signing.ensures)
