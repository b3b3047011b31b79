use Rattle.std.proofs.Common.{◌≡◌, ◌∙◌, Some, sym}
use Rattle.server_life.specs.LifeTable.{generation_of}
use Rattle.hub_tests.proofs.OneLives.{of_made}
use Rattle.hub_tests.proofs.of_adopt.step.Goals as goal

pub returns-clause-of : goal.returns-clause-of
returns-clause-of c = of_made c.life_step.result (λ made. generation_of c.args.life.phase ≡ Some c.args.generation)
    (λ made is. (c.life_laws.ensures.generation c.args.life c.args.generation c.args.outcome made c.requires (sym c.life_step.ensures ∙ is)).0)
