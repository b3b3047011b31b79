use Rattle.std.proofs.lemmas.Result.{IfOk-weaker}
use Rattle.hub_core.proofs.holding.asked_inside.Goals as goal

pub returns : goal.returns
returns c =
    IfOk-weaker c.within.result _ _ (λ inside h. record { rights = c.in_ok-rights.rights; exact = c.in_ok-rights.ensures.admits; within = h })
    (rw c.as_slice.ensures at c.within.ensures)
