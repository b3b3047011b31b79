use Rattle.std.proofs.Common.{rules, ap, codes, ◌∙◌}
use Rattle.serde_json.specs.Data.{object, put}
use Rattle.scope_filters.specs.Scopes.{scope_text}
use Rattle.record_texts.specs.Fields.{lines}
use Rattle.record_texts.proofs.people.RoleRecord.value.Goals as goal

pub returns-clause-shape : goal.returns-clause-shape
returns-clause-shape c =
    let groups = c.in_ok-texts.ensures.members ∙ (λ i. put (codes "groups") (lines (λ name. name) (c.as_slice.ensures.keys i)) (c.new.ensures i)) in
    let scopes = c.in_ok-texts-2.ensures.members ∙ (λ i. put (codes "scopes") (lines scope_text (c.as_slice-2.ensures i)) (groups i)) in
    let services = c.in_ok-texts-3.ensures.members ∙ (λ i. put (codes "services") (lines (λ name. name) (c.as_slice-3.ensures.keys i)) (scopes i)) in
    let users = c.in_ok-fields.ensures.members ∙ (λ i. put (codes "users") (lines (λ name. name) (c.as_slice-4.ensures.keys i)) (services i)) in
    c.into_object.ensures ∙ ap object users

pub returns-clause-valid : goal.returns-clause-valid
returns-clause-valid c = search rules
