use Rattle.std.proofs.Common.{[], refl, sym, inl, inr}
use Rattle.guard_login.specs.Signed.{stepped}
use Rattle.guard_login.proofs.LoginLemmas.{finishes_by}
use Rattle.guard_login.proofs.logins.sign_in.Goals as goal

pub returns-in-Err-clause-ends : goal.returns-in-Err-clause-ends
returns-in-Err-clause-ends g c =
    let steps = c.in-Err.ensures.steps in (
      steps.0,
      [],
      steps.1,
      inr (steps.2, refl, record { left = refl; kept = refl; told = refl }, c.want.ensures.written),
    )

pub returns-clause-ends : goal.returns-clause-ends
returns-clause-ends g c =
    let steps = c.in-Ok.ensures.steps in
    let finished = c.finish.ensures.ends in (
      steps.0,
      finished.0,
      steps.1,
      inl (
        steps.2.0,
        steps.2.1,
        finishes_by g.R.Random.left g.R.Random.faults c.args.random.now c.finish.new.random c.args.door.now c.args.head.now c.args.framing
            (stepped c.args.door.now c.args.head.now steps.2.0) c.in-Ok.step _ _ _ (sym steps.2.2) finished.1,
      ),
    )
