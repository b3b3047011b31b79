use Rattle.std.proofs.Common.{◌≡◌, IfOk, Option, option_map, subst, ap, sym, ◌∙◌}
use Rattle.serde_json.specs.Data.{Data}
use Rattle.serde_json.specs.View.{view}
use Rattle.request_parts.specs.Bodies.{object_in}
use Rattle.request_parts.proofs.Texts.{object_of_text, object_of_other}
use Rattle.request_parts.proofs.body.object_of.Goals as goal

pub returns-in-Ok : goal.returns-in-Ok
returns-in-Ok c =
    subst (λ (d : Option Data). IfOk c.object_in.result (λ body. option_map view body ≡ d))
    (ap object_in c.in-Ok.ensures.cases.0 ∙ sym (object_of_text c.args.bytes.now c.in-Ok.ensures.cases.1))
    c.object_in.ensures

pub returns-in-Err : goal.returns-in-Err
returns-in-Err c = sym (object_of_other c.args.bytes.now c.in-Err.ensures.cases.0)
