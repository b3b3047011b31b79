use Rattle.std.proofs.Common.{ap, sym, subst, ◌∙◌}
use Rattle.hub_opening.specs.Kept.{MakeTable}
use Rattle.hub_config.specs.Custom.{undeclared}
use Rattle.hub_config.specs.Managed.{are_apart}
use Rattle.hub_config.proofs.Refusals.{no_table}
use Rattle.hub_config.proofs.reading.check.Goals as goal

pub returns-in-Ok-Some : goal.returns-in-Ok-Some
returns-in-Ok-Some c =
    let made = rw c.in-Ok-Some.field-0-is at c.in-Ok-Some.ensures.some in
    record {
      table = subst MakeTable c.as_slice-3.ensures made.1;
      declared =
          ap (λ rows. undeclared rows c.args.config.now.hub) (sym (made.0 ∙ c.as_slice-3.ensures)) ∙ sym c.undeclared.ensures ∙ c.in-None.is;
      apart =
          ap (λ pool. are_apart pool c.args.config.now.managed) (sym c.as_slice.ensures.value) ∙ ap (λ managed. are_apart c.as_slice.result.now managed) (sym c.as_slice-2.ensures)
          ∙ sym c.are_apart.ensures ∙ c.if-not-are_apart.false;
    }

pub returns-in-Ok-None : goal.returns-in-Ok-None
returns-in-Ok-None c =
    no_table c.args.config.now c.refused_at-in-Ok-None.result c.refused_at-in-Ok-None.ensures
    (λ made. c.in-Ok-None.ensures.none c.in-Ok-None.field-0-is (subst MakeTable (sym c.as_slice-3.ensures) made))
