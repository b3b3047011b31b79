use Rattle.std.proofs.Common.{◌≡◌, Bool, Option, IfSome, ap, subst, ◌∙◌}
use Rattle.request_parts.specs.Bodies.{truth_in_text}
use Rattle.request_parts.proofs.Truths.{truth_of_body}
use Rattle.request_parts.proofs.truth.seen_truth.Goals as goal

pub returns-in-Ok : goal.returns-in-Ok
returns-in-Ok c =
    subst (λ (said : Option Bool). IfSome c.truth_in_text.result (λ found. found ≡ said))
    (ap (truth_in_text c.args.key.now) c.in-Ok.ensures.cases.0 ∙ truth_of_body c.args.bytes.now c.args.key.now c.in-Ok.ensures.cases.1)
    c.truth_in_text.ensures
