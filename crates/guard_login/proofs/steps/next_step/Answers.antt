use Rattle.std.proofs.Common.{[]}
use Rattle.hub_link.proofs.AskLemmas.{no_ask}
use Rattle.guard_login.specs.Signed.{asked}
use Rattle.guard_login.proofs.LoginLemmas.{ungiven, callback_asks, other_asks}
use Rattle.guard_login.proofs.steps.next_step.Goals as goal

pub returns-in_default-clause-steps : goal.returns-in_default-clause-steps
returns-in_default-clause-steps g c = ([], no_ask g.H.HubLink.asked g.H.HubLink.does c.args.link.now, ungiven (asked c.args.door.now c.args.head.now))

pub returns-then-callback-clause-steps : goal.returns-then-callback-clause-steps
returns-then-callback-clause-steps g c =
    let steps = c.step_callback.ensures.steps in
    (steps.0, steps.1, callback_asks c.args.door.now c.args.head.now _ steps.0 _ _ c.step_callback.result c.in-Ok.ensures c.if-callback.true steps.2)

pub returns-else-callback-clause-steps : goal.returns-else-callback-clause-steps
returns-else-callback-clause-steps g c =
    let steps = c.step_other.ensures.steps in
    (steps.0, steps.1, other_asks c.args.door.now c.args.head.now _ steps.0 _ _ c.step_other.result c.in-Ok.ensures c.if-callback.false steps.2)
