use Rattle.std.proofs.Common.{◌∙◌, ap}
use Rattle.std.proofs.lemmas.Result.{IfOk-weaker}
use Rattle.hub_machine.specs.Trails.{in_trail}
use Rattle.hub_core.proofs.decide.without_token.Goals as goal

pub returns : goal.returns
returns c = IfOk-weaker c.in_trail.result _ _ (λ a h. h ∙ ap (in_trail c.args.hub.now) c.in_ok-answer.ensures) c.in_trail.ensures
