use Rattle.std.proofs.Common.{rules, ap, codes, ◌∙◌}
use Rattle.serde_json.specs.Data.{string, object, put}
use Rattle.record_texts.specs.Fields.{whole, maybe}
use Rattle.record_texts.proofs.tokens.OAuthCodeRecord.value.Goals as goal

pub returns-clause-shape : goal.returns-clause-shape
returns-clause-shape c =
    let client = c.in_ok-string.ensures ∙ (λ i. put (codes "client") (string (c.as_str.ensures i)) (c.new.ensures i)) in
    let expires_at = c.in_ok-number.ensures ∙ (λ i. put (codes "expires_at") (whole (c.seconds.ensures.value i)) (client i)) in
    let owner = c.in_ok-string-2.ensures ∙ (λ i. put (codes "owner") (string (c.as_str-2.ensures.value i)) (expires_at i)) in
    let redirect_uri = c.in_ok-string-3.ensures ∙ (λ i. put (codes "redirect_uri") (string (c.as_str-3.ensures i)) (owner i)) in
    let token = c.in_ok-fields.ensures.members ∙ ap (put (codes "token") (maybe whole c.args.self.now.token)) redirect_uri in
    c.into_object.ensures ∙ ap object token

pub returns-clause-valid : goal.returns-clause-valid
returns-clause-valid c = search rules
