use Rattle.std.proofs.Common.{◌∙◌, refl}
use Rattle.hub_main.proofs.Passes.{pass_grows, served}
use Rattle.hub_main.proofs.serving.serve_pass.Goals as goal

pub returns-in-Ok-clause-ends : goal.returns-in-Ok-clause-ends
returns-in-Ok-clause-ends g c = λ start base.
    served start _ _ _ _ _ _ _ (c.in-Ok.ensures.adopted start base) (c.serve_connection.ensures.ends start (c.in-Ok.ensures.base ∙ base))
    refl

pub returns-in-Ok-clause-counted : goal.returns-in-Ok-clause-counted
returns-in-Ok-clause-counted g c = λ start base.
    pass_grows start _ _ _ c.serve_connection.result c.in-Ok.ensures.counted
    (c.serve_connection.ensures.ends start (c.in-Ok.ensures.base ∙ base))
