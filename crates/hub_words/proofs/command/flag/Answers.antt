use Rattle.std.proofs.Common.{rules, ◌≡◌, ◌∙◌, ap}
use Rattle.std.proofs.lemmas.Result.{IfOk-weaker}
use Rattle.clap.specs.Simple.{with_rule}
use Rattle.clap.specs.Walk.{rule_of}
use Rattle.hub_words.specs.Commands.{flag_rule}
use Rattle.hub_words.proofs.command.flag.Goals as goal

pub returns : goal.returns
returns c = λ app known.
    let rule : rule_of c.action.result ≡ flag_rule c.args.id.now = search rules in
    IfOk-weaker c.add.result _ _ (λ r h. h ∙ ap (with_rule app) rule) (c.add.ensures app known)
