use Rattle.guard_login.proofs.LoginLemmas.{sent_asks}
use Rattle.guard_login.proofs.steps.step_called.Goals as goal

pub returns-in-Ok-clause-steps : goal.returns-in-Ok-clause-steps
returns-in-Ok-clause-steps g c =
    let steps = c.in-Ok.ensures.steps in
    (steps.0, steps.1, sent_asks c.args.door.now c.args.call steps.0 _ _ c.in-Ok.token c.sent_back.result c.sent_back.ensures steps.2)

pub returns-in-Err-clause-steps : goal.returns-in-Err-clause-steps
returns-in-Err-clause-steps g c = c.in-Err.ensures.steps
