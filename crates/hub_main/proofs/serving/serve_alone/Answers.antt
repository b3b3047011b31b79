use Rattle.std.proofs.Common.{◌∙◌}
use Rattle.hub_main.proofs.Passes.{ends_by}
use Rattle.hub_main.proofs.serving.serve_alone.Goals as goal

pub returns-clause-ends : goal.returns-clause-ends
returns-clause-ends g c = λ start base.
    let alone = c.serve_pass-end.ensures.alone in
    ends_by _ _ _ c.args.pass start c.args.now _ _ _ _ _ c.close.result (c.serve_pass-end.ensures.ends start base)
    (c.close.ensures.base) (c.serve_pass-end.ensures.base ∙ base) (c.close.ensures.whole alone) c.into_parts-store.ensures.reached
    c.into_parts-store.ensures.rows (c.into_parts-store.ensures.faults ∙ c.close.ensures.exact alone)
