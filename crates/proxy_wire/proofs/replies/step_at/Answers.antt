use Rattle.std.proofs.Common.{List, ℕ, drop, IfOk, subst, ap, ◌∙◌}
use Rattle.std.proofs.lemmas.List.{take_rest}
use Rattle.proxy_wire.specs.Replies.{IsStep}
use Rattle.proxy_wire.proofs.replies.step_at.Goals as goal

pub returns-clause-step : goal.returns-clause-step
returns-clause-step c =
    subst (λ (x : List ℕ). IfOk c.next_step.result (IsStep c.args.upgrade c.args.method.now x))
    (take_rest c.as_slice.result.now c.args.at ∙ ap (drop c.args.at) c.as_slice.ensures.value) c.next_step.ensures
