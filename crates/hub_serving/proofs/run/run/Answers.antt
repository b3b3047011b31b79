use Rattle.std.proofs.Common.{◌∙◌, sym}
use Rattle.hub_serving.proofs.Planned.{plan_apart, plan_fits, plan_scopes, run_ends}
use Rattle.hub_serving.proofs.run.run.Goals as goal

pub run_planned-end-requires-clause-limits : goal.run_planned-end-requires-clause-limits
run_planned-end-requires-clause-limits g c κs within = plan_fits _ _ c.args.plan.now c.requires.read

pub run_planned-end-requires-clause-scopes : goal.run_planned-end-requires-clause-scopes
run_planned-end-requires-clause-scopes g c κs within = plan_scopes _ _ c.args.plan.now c.requires.read

pub run_planned-end-requires-clause-apart : goal.run_planned-end-requires-clause-apart
run_planned-end-requires-clause-apart g c κs within = plan_apart _ _ c.args.plan.now c.requires.read

pub returns-clause-ends : goal.returns-clause-ends
returns-clause-ends g c = λ k k' before after.
    run_ends _ _ _ _ _ _ _ _ c.in-Some.store _ k k' _ c.status_of-status.result c.run_planned-end.ensures.ends c.status_of-status.ensures
    (sym c.in-Some.is ∙ c.take.ensures.value ∙ before) after
