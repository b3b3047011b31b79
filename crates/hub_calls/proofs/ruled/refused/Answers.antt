use Rattle.hub_calls.proofs.Refusing.{err_refuses}
use Rattle.hub_calls.proofs.ruled.refused.Goals as goal

pub returns : goal.returns
returns c =
    err_refuses c.args.refusal c.in_ok-refusal_said.field-0 c.in_ok-refusal_said.ensures.said (λ e. cc (c.in_ok-refusal_said.ensures.memory e))
