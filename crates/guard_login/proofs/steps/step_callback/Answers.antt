use Rattle.std.proofs.Common.{[], Result, sym, ◌∙◌, subst}
use Rattle.hub_link.proofs.AskLemmas.{no_ask}
use Rattle.guard.specs.declared.denials.Denial.{Denial}
use Rattle.guard_login.specs.Answers.{Steps}
use Rattle.guard_login.specs.Signed.{called, asks_trade, by_called}
use Rattle.guard_login.specs.declared.steps.Called.{Called}
use Rattle.guard_login.proofs.LoginLemmas.{ungiven, refused_asks}
use Rattle.guard_login.proofs.steps.step_callback.Goals as goal

pub returns-in_default-clause-steps : goal.returns-in_default-clause-steps
returns-in_default-clause-steps g c = ([], no_ask g.H.HubLink.asked g.H.HubLink.does c.args.link.now, ungiven (asks_trade c.args.door.now (called c.args.door.now c.args.head.now)))

pub returns-in-Ok-read-clause-steps : goal.returns-in-Ok-read-clause-steps
returns-in-Ok-read-clause-steps g c =
    let steps = c.step_called.ensures.steps in (
      steps.0,
      steps.1,
      subst (λ (call : Result Called Denial). Steps (asks_trade c.args.door.now call) (by_called call) steps.0 (g.H.HubLink.faults c.args.link.now)
          (g.H.HubLink.faults c.step_called.new.link) c.step_called.result) (sym c.in-Ok-read.is ∙ c.in-Ok.ensures) steps.2,
    )

pub returns-in-Err-clause-steps : goal.returns-in-Err-clause-steps
returns-in-Err-clause-steps g c = (
  [],
  no_ask g.H.HubLink.asked g.H.HubLink.does c.args.link.now,
  refused_asks c.args.door.now (called c.args.door.now c.args.head.now) c.in-Err.denial _ _ (sym c.in-Err.is ∙ c.in-Ok.ensures),
)
