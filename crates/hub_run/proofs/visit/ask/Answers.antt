use Rattle.std.proofs.Common.{Ok, Err, refl, subst}
use Rattle.hub_core.specs.Visits.{entries_of, VisitedAt}
use Rattle.hub_core.specs.declared.ask.Ask.{Ask}
use Rattle.hub_run.proofs.AnswerLemmas.{asked_of}
use Rattle.hub_run.proofs.visit.ask.Goals as goal

pub returns-in-Ok-outcome-clause-asks : goal.returns-in-Ok-outcome-clause-asks
returns-in-Ok-outcome-clause-asks g c = λ start base.
    let visit = c.in-Ok-outcome.ensures.visit in
    asked_of {E = Unit {0}} start _ _ c.args.asked c.in-Ok.draw c.now-now.result visit.0 visit.1 (Ok c.in-Ok-outcome.outcome) base
    c.in-Ok.ensures.drawn.0 c.in-Ok.ensures.drawn.1 c.now-now.ensures (refl, refl, refl, refl) visit.3
    (subst (λ (job : Ask). VisitedAt {E = Unit {0}} visit.0.start (entries_of visit.0) (entries_of visit.1) visit.0.faults visit.1.faults job.now job.draw job.asked (Ok c.in-Ok-outcome.outcome))
    c.new-ask.ensures visit.2.0)

pub returns-in-Err-outcome-clause-asks : goal.returns-in-Err-outcome-clause-asks
returns-in-Err-outcome-clause-asks g c = λ start base.
    let visit = c.in-Err-outcome.ensures.visit in
    asked_of start _ _ c.args.asked c.in-Ok.draw c.now-now.result visit.0 visit.1 (Err c.in-Err-outcome.field-0) base
    c.in-Ok.ensures.drawn.0 c.in-Ok.ensures.drawn.1 c.now-now.ensures (refl, refl, refl, refl) visit.3
    (subst (λ (job : Ask). VisitedAt visit.0.start (entries_of visit.0) (entries_of visit.1) visit.0.faults visit.1.faults job.now job.draw job.asked (Err c.in-Err-outcome.field-0))
    c.new-ask.ensures visit.2.0)
