use Rattle.std.proofs.Common.{◌++◌, ap, sym, ◌∙◌}
use Rattle.json.specs.Print.{quoted}
use Rattle.serde_json.specs.Written.{comma_if}
use Rattle.record_texts.proofs.Cuts.{scope_is, is_shorter}
use Rattle.record_texts.proofs.cut.cut_scope.Goals as goal

pub returns-in-Ok-clause-cut : goal.returns-in-Ok-clause-cut
returns-in-Ok-clause-cut c =
    let it = scope_is c.in-Some.written.now c.in-Ok.scope (sym c.in-Ok.ensures) in
    (c.in_ok-item.ensures ∙ ap (λ s. comma_if c.args.later ++ s) (c.in-Some.ensures ∙ ap (λ s. quoted s ++ c.in-Some.rest.now) it.0), it.1)

pub returns-in-Ok-clause-shorter : goal.returns-in-Ok-clause-shorter
returns-in-Ok-clause-shorter c =
    is_shorter c.args.later c.in-Some.written.now c.args.text.now c.in-Some.rest.now (c.in_ok-item.ensures ∙ ap (λ s. comma_if c.args.later ++ s) c.in-Some.ensures)
