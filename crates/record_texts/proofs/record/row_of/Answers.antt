use Rattle.std.proofs.Common.{◌≡◌, ap, ◌∙◌, false}
use Rattle.serde_json.specs.View.{view}
use Rattle.serde_json.specs.Written.{has_float, compact_text}
use Rattle.record_texts.proofs.Texts.{plain-no_float}
use Rattle.record_texts.proofs.record.row_of.Goals as goal

pub returns-clause-row : goal.returns-clause-row
returns-clause-row g c =
    let shape = c.in_ok-shape.ensures.shape in
    let whole : has_float (view c.in_ok-shape.shape) ≡ false = ap has_float shape ∙ plain-no_float _ (g.met.R.Record.plain c.args.kept.now c.in_ok-shape.ensures.valid).0 in
    let text = c.from_string-text.ensures ∙ (c.in_ok-written.ensures.text whole ∙ ap compact_text shape) in
    λ i. record { kind = c.KIND.ensures i; key = c.in_ok-key.ensures i; text = text i }
