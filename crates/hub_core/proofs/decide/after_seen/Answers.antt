use Rattle.std.proofs.Common.{◌∙◌, sym}
use Rattle.std.proofs.lemmas.Result.{IfOk-weaker}
use Rattle.hub_machine.specs.Answers.{answer_view}
use Rattle.hub_core.proofs.Deciding.{tokenless}
use Rattle.hub_core.proofs.Looking.{none_decides, not_looked}
use Rattle.hub_core.proofs.decide.after_seen.Goals as goal

pub returns-clause-answers : goal.returns-clause-answers
returns-clause-answers c = IfOk-weaker c.without_token.result _ _
    (λ a h. tokenless c.args.hub.now c.args.now c.args.draw c.args.asked.now (answer_view a) c.requires.past (sym c.needs_token-needed.ensures ∙ c.if-needed.false) h)
    c.without_token.ensures

pub returns-clause-looked : goal.returns-clause-looked
returns-clause-looked c = not_looked c.args.rights.now c.args.stamps.stamp _ c.without_token.result
    (none_decides c.args.hub.now c.args.now c.args.asked.now c.requires.past (sym c.needs_token-needed.ensures ∙ c.if-needed.false))
