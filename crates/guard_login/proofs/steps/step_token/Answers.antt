use Rattle.guard.specs.Access.{access_request}
use Rattle.guard_login.specs.Signed.{by_access}
use Rattle.guard_login.proofs.LoginLemmas.{steps_of, answer_failed, answer_wanted}
use Rattle.guard_login.proofs.steps.step_token.Goals as goal

pub returns-in-Ok-clause-steps : goal.returns-in-Ok-clause-steps
returns-in-Ok-clause-steps g c =
    let asked = c.in-Ok.ensures.ok in (
      asked.0,
      asked.1,
      steps_of c.args.head.now (access_request c.args.door.now.key c.args.token.now) asked.0 _ _ c.in-Ok.access c.step_of.result c.step_of.ensures asked.2,
    )

pub returns-in-Err-Failed-clause-steps : goal.returns-in-Err-Failed-clause-steps
returns-in-Err-Failed-clause-steps g c =
    let asked = c.in-Err-Failed.ensures.err in (
      asked.0,
      asked.1,
      answer_failed _ (by_access c.args.head.now) (access_request c.args.door.now.key c.args.token.now) asked.0 _ _ c.in-Err-Failed.field-0
          c.in-Err-Failed.field-0-is c.in-Err-Failed.ensures.cause asked.2,
    )

pub returns-in-Err-Memory-clause-steps : goal.returns-in-Err-Memory-clause-steps
returns-in-Err-Memory-clause-steps g c =
    let asked = c.in-Err-Memory.ensures.err in
    (asked.0, asked.1, answer_wanted (access_request c.args.door.now.key c.args.token.now) asked.0 c.in-Err-Memory.field-0 c.in-Err-Memory.field-0-is asked.2)
