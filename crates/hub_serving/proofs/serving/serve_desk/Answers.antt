use Rattle.std.proofs.Common.{◌∙◌, refl}
use Rattle.hub_serving.proofs.Ready.{by_adopted, looked}
use Rattle.hub_serving.proofs.serving.serve_desk.Goals as goal

pub returns-in-Ok-clause-ends : goal.returns-in-Ok-clause-ends
returns-in-Ok-clause-ends g c = λ start base.
    by_adopted _ _ _ _ start c.args.pass _ c.in-Ok.field-0 c.args.plan.now _ _ _ _ (c.in-Ok.ensures.adopted start base)
    (c.serve_synced.ensures.ends start (c.in-Ok.ensures.base ∙ base))

pub returns-in-Err-clause-ends : goal.returns-in-Err-clause-ends
returns-in-Err-clause-ends g c = λ start base.
    looked _ _ _ _ start _ c.args.pass c.args.plan.now _ _ _ _ _ c.close.result c.in-Err.ensures.memory c.requires.alone c.requires.new
    refl refl refl refl refl refl refl refl c.close.ensures.base (c.in-Err.ensures.base ∙ base)
    (c.close.ensures.whole (c.in-Err.ensures.alone ∙ c.requires.alone)) c.into_parts-store.ensures.reached c.into_parts-store.ensures.rows
