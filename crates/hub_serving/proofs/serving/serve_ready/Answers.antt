use Rattle.hub_serving.proofs.Ready.{unattended}
use Rattle.hub_serving.proofs.serving.serve_ready.Goals as goal

pub returns-in-Err-clause-ends : goal.returns-in-Err-clause-ends
returns-in-Err-clause-ends g c = λ start base.
    unattended _ _ _ _ start c.args.pass c.args.plan.now _ _ c.close.result c.requires.alone c.close.ensures.begins c.close.ensures.whole
    c.close.ensures.own c.close.ensures.base base
    c.into_parts-store.ensures.reached c.into_parts-store.ensures.rows
