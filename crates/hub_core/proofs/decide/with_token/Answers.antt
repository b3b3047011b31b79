use Rattle.std.proofs.Common.{◌∙◌, sym, ap}
use Rattle.std.proofs.lemmas.Result.{IfOk-weaker}
use Rattle.std.specs.Prelude.{Some, None}
use Rattle.std.specs.Option.{option_copied}
use Rattle.hub_machine.specs.Answers.{answer_view}
use Rattle.hub_core.proofs.Deciding.{nobody_known, by_token}
use Rattle.hub_core.proofs.Looking.{decides, none_looked, looked_of}
use Rattle.hub_core.proofs.decide.with_token.Goals as goal

pub returns-in-None-clause-answers : goal.returns-in-None-clause-answers
returns-in-None-clause-answers c = nobody_known c.args.hub.now c.args.now c.args.draw c.args.asked.now c.requires.past c.requires.needed
    (sym c.in_ok-caller.ensures.value ∙ ap option_copied c.in-None.is)

pub returns-in-None-clause-looked : goal.returns-in-None-clause-looked
returns-in-None-clause-looked c = none_looked c.args.rights.now c.args.stamps.stamp _ (decides c.args.hub.now c.args.now c.args.asked.now None c.requires.past c.requires.needed
    (sym c.in_ok-caller.ensures.value ∙ ap option_copied c.in-None.is))

pub returns-in-Some-clause-answers : goal.returns-in-Some-clause-answers
returns-in-Some-clause-answers c = IfOk-weaker c.by_rights.result _ _
    (λ a b. by_token c.args.hub.now c.args.now c.args.draw c.args.asked.now c.in-Some.token.now (answer_view a) c.requires.past c.requires.needed
    (sym c.in_ok-caller.ensures.value ∙ ap option_copied c.in-Some.is) b)
    c.by_rights.ensures.answers

pub returns-in-Some-clause-looked : goal.returns-in-Some-clause-looked
returns-in-Some-clause-looked c = looked_of c.args.rights.now c.by_rights.new.rights c.args.stamps.stamp _ _ c.by_rights.result (sym (decides c.args.hub.now c.args.now c.args.asked.now (Some c.in-Some.token.now) c.requires.past c.requires.needed
    (sym c.in_ok-caller.ensures.value ∙ ap option_copied c.in-Some.is))) c.by_rights.ensures.looked
