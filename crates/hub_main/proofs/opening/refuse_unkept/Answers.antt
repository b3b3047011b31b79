use Rattle.hub_main.proofs.Unknown.{names_by}
use Rattle.hub_main.proofs.opening.refuse_unkept.Goals as goal

pub returns-in-Err-clause-err : goal.returns-in-Err-clause-err
returns-in-Err-clause-err g c = λ now. c.in-Err.ensures.err c.args.config.now now

pub returns-in-Ok-None-clause-ok : goal.returns-in-Ok-None-clause-ok
returns-in-Ok-None-clause-ok g c =
    names_by c.args.config.now _ _ c.in-Ok.kept.items c.as_slice.result.now c.in-Ok-None.field-0 c.as_slice.ensures.value c.in-Ok.ensures.ok
    c.in-Ok-None.ensures c.in-Ok-None.field-0-is
