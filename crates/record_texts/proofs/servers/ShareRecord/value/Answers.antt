use Rattle.std.proofs.Common.{rules, ap, codes, ◌∙◌}
use Rattle.serde_json.specs.Data.{object, put}
use Rattle.scope_filters.specs.Scopes.{scope_text}
use Rattle.record_texts.specs.Fields.{whole, lines}
use Rattle.record_texts.proofs.servers.ShareRecord.value.Goals as goal

pub returns-clause-shape : goal.returns-clause-shape
returns-clause-shape c =
    let created = c.in_ok-number.ensures ∙ (λ i. put (codes "created") (whole (c.seconds.ensures.value i)) (c.new.ensures i)) in
    let scopes = c.in_ok-fields.ensures.members ∙ (λ i. put (codes "scopes") (lines scope_text (c.as_slice.ensures.scopes i)) (created i)) in
    c.into_object.ensures ∙ ap object scopes

pub returns-clause-valid : goal.returns-clause-valid
returns-clause-valid c = search rules
