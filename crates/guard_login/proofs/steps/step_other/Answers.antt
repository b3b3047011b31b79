use Rattle.std.proofs.Common.{[]}
use Rattle.hub_link.proofs.AskLemmas.{no_ask}
use Rattle.guard_login.specs.Signed.{token_given}
use Rattle.guard_login.proofs.LoginLemmas.{token_asks, unknown_asks}
use Rattle.guard_login.proofs.steps.step_other.Goals as goal

pub returns-in-Some-clause-steps : goal.returns-in-Some-clause-steps
returns-in-Some-clause-steps g c =
    let steps = c.step_token.ensures.steps in (
      steps.0,
      steps.1,
      token_asks c.args.door.now c.args.head.now (token_given c.args.head.now) c.in-Some.token.now steps.0 _ _ c.step_token.result c.in-Some.ensures steps.2,
    )

pub returns-in-None-clause-steps : goal.returns-in-None-clause-steps
returns-in-None-clause-steps g c = (
  [],
  no_ask g.H.HubLink.asked g.H.HubLink.does c.args.link.now,
  unknown_asks c.args.door.now c.args.head.now (token_given c.args.head.now) _ _ c.unsigned.result c.in-None.ensures c.unsigned.ensures,
)
