use Rattle.std.proofs.Common.{◌≡◌, ◌∙◌, ap, subst}
use Rattle.std.proofs.lemmas.Result.{IfOk-weaker}
use Rattle.clap.specs.Simple.{app_of, with_rule}
use Rattle.clap.specs.Walk.{rule_of}
use Rattle.hub_words.specs.Commands.{Makes}
use Rattle.hub_words.proofs.command.add.Goals as goal

pub returns-in-Ok : goal.returns-in-Ok
returns-in-Ok c = λ app known.
    let made : app_of c.in-Ok.command ≡ app = subst (Makes app) c.in-Ok.is known in
    IfOk-weaker c.with.result _ _ (λ r h. h ∙ ap (λ a. with_rule a (rule_of c.args.arg)) made) c.with.ensures
