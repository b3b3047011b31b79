use Rattle.hub_serving.proofs.Ready.{over_opened, untouched}
use Rattle.hub_serving.proofs.serving.serve_book.Goals as goal

pub returns-in-Ok-clause-ends : goal.returns-in-Ok-clause-ends
returns-in-Ok-clause-ends g c =
    over_opened _ _ _ _ c.args.book c.args.plan.now _ _ _ _ c.in-Ok.desk c.in-Ok.pass c.in-Ok.ensures.opened c.requires.new c.serve_desk.ensures.ends

pub returns-in-Err-clause-ends : goal.returns-in-Err-clause-ends
returns-in-Err-clause-ends g c =
    untouched _ _ _ _ c.args.book c.in-Err.book c.args.plan.now _ _ c.in-Err.ensures.back c.requires.new c.into_parts-store.ensures.reached
    c.into_parts-store.ensures.rows
