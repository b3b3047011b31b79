use Rattle.std.proofs.Common.{rules, ap, codes, ◌∙◌}
use Rattle.serde_json.specs.Data.{string, object, put}
use Rattle.scope_filters.specs.Scopes.{scope_text}
use Rattle.record_texts.specs.Fields.{whole, maybe, lines}
use Rattle.key_texts.specs.KeyTexts.{server_text, owner_text}
use Rattle.record_texts.proofs.tokens.TokenRecord.value.Goals as goal

pub returns-clause-shape : goal.returns-clause-shape
returns-clause-shape c =
    let client = c.in_ok-maybe_text.ensures.members ∙ ap (put (codes "client") (maybe (λ text. string text) c.args.self.now.client)) c.new.ensures in
    let created = c.in_ok-number.ensures ∙ (λ i. put (codes "created") (whole (c.seconds.ensures.value i)) (client i)) in
    let expires_at = c.in_ok-maybe_number.ensures.members ∙ ap (put (codes "expires_at") (maybe whole c.args.self.now.expires_at)) created in
    let hash = c.in_ok-string.ensures ∙ (λ i. put (codes "hash") (string (c.as_str.ensures i)) (expires_at i)) in
    let issued_for = c.in_ok-maybe_text-2.ensures.members ∙ ap (put (codes "issued_for") (maybe (λ key. string (server_text key)) c.args.self.now.issued_for)) hash in
    let note = c.in_ok-string-2.ensures ∙ (λ i. put (codes "note") (string (c.as_str-2.ensures i)) (issued_for i)) in
    let owner = c.in_ok-text.ensures.members ∙ ap (put (codes "owner") (string (owner_text c.args.self.now.owner))) note in
    let scopes = c.in_ok-fields.ensures.members ∙ (λ i. put (codes "scopes") (lines scope_text (c.as_slice.ensures i)) (owner i)) in
    c.into_object.ensures ∙ ap object scopes

pub returns-clause-valid : goal.returns-clause-valid
returns-clause-valid c = search rules
