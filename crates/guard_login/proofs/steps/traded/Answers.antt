use Rattle.std.proofs.Common.{Some, None, refl}
use Rattle.std.proofs.lemmas.Result.{IfOk-weaker}
use Rattle.guard_login.proofs.steps.traded.Goals as goal

pub returns-in-Some : goal.returns-in-Some
returns-in-Some c =
    IfOk-weaker c.by_trade.result _ _ (λ token is. (Some (c.in-Some.status, c.in-Some.body.now), c.in-Some.ensures.some, is)) c.by_trade.ensures

pub returns-in-None : goal.returns-in-None
returns-in-None c = (None, c.in-None.ensures.none, refl)
