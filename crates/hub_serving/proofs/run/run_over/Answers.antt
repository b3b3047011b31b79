use Rattle.hub_serving.proofs.Planned.{ends_over}
use Rattle.hub_serving.proofs.run.run_over.Goals as goal

pub returns-in-Ok-clause-ends : goal.returns-in-Ok-clause-ends
returns-in-Ok-clause-ends g c =
    ends_over _ _ _ _ c.args.plan.now c.args.now _ _ c.args.store _ c.in-Ok.book _ c.in-Ok.ensures.ok c.serve_book.ensures.had
    c.serve_book.ensures.ends
