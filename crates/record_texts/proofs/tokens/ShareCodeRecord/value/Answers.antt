use Rattle.std.proofs.Common.{rules, ap, codes, ◌∙◌}
use Rattle.serde_json.specs.Data.{string, object, put}
use Rattle.scope_filters.specs.Scopes.{scope_text}
use Rattle.record_texts.specs.Fields.{whole, lines}
use Rattle.key_texts.specs.KeyTexts.{server_text}
use Rattle.record_texts.proofs.tokens.ShareCodeRecord.value.Goals as goal

pub returns-clause-shape : goal.returns-clause-shape
returns-clause-shape c =
    let created = c.in_ok-number.ensures ∙ (λ i. put (codes "created") (whole (c.seconds.ensures.value i)) (c.new.ensures i)) in
    let expires_at = c.in_ok-number-2.ensures ∙ (λ i. put (codes "expires_at") (whole (c.seconds-2.ensures.value i)) (created i)) in
    let hash = c.in_ok-string.ensures ∙ (λ i. put (codes "hash") (string (c.as_str.ensures i)) (expires_at i)) in
    let scopes = c.in_ok-texts.ensures.members ∙ (λ i. put (codes "scopes") (lines scope_text (c.as_slice.ensures i)) (hash i)) in
    let server = c.in_ok-fields.ensures.members ∙ ap (put (codes "server") (string (server_text c.args.self.now.server))) scopes in
    c.into_object.ensures ∙ ap object server

pub returns-clause-valid : goal.returns-clause-valid
returns-clause-valid c = search rules
