use Rattle.std.proofs.Common.{◌∙◌, sym, ap, ℕ}
use Rattle.hub_core.specs.Answer.{is_past}
use Rattle.hub_core.proofs.Deciding.{past}
use Rattle.hub_core.proofs.Looking.{past_decides, none_looked}
use Rattle.hub_core.proofs.decide.decide.Goals as goal

pub returns-then-past-clause-answers : goal.returns-then-past-clause-answers
returns-then-past-clause-answers c = past c.args.hub.now c.args.now c.args.draw c.args.asked.now c.named-seen.result c.length-revision.result
    (ap (λ (n : ℕ). is_past n c.args.asked.now.seen) (sym c.length-revision.ensures.value) ∙ sym c.is_past-past.ensures ∙ c.if-past.true)
    c.named-seen.ensures c.length-revision.ensures.value

pub returns-then-past-clause-looked : goal.returns-then-past-clause-looked
returns-then-past-clause-looked c = none_looked c.args.rights.now c.args.stamps.stamp _ (past_decides c.args.hub.now c.args.now c.args.asked.now
    (ap (λ (n : ℕ). is_past n c.args.asked.now.seen) (sym c.length-revision.ensures.value) ∙ sym c.is_past-past.ensures ∙ c.if-past.true))
