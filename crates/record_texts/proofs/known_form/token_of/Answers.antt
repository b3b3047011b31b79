use Rattle.std.proofs.Common.{◌≡◌, ◌++◌, codes, Some, sym, ◌∙◌, arith}
use Rattle.std.specs.List.{AllByRecursion}
use Rattle.std.specs.Option.{option_copied}
use Rattle.serde_json.specs.Data.{string}
use Rattle.serde_json.specs.Written.{compact_text}
use Rattle.scope_filters.specs.Scopes.{scope_text}
use Rattle.key_texts.specs.KeyTexts.{server_text, owner_text, IsScope}
use Rattle.record_texts.specs.Fields.{whole, maybe, lines}
use Rattle.record_texts.proofs.KnownForms.{held, token_text}
use Rattle.record_texts.proofs.known_form.token_of.Goals as goal

pub returns : goal.returns
returns c =
    let got = c.in_ok-client in
    let front = c.in-Some in
    let middle = c.in-Some-cut_middle in
    let texts = held (λ found. (c.copy_maybe.result ≡ Some found.0) × (c.both.result ≡ Some found.1)) c.both-texts.result (got.client, (got.hash, got.note)) c.both-texts.ensures got.ensures.0 in
    let inner = held (λ found. (c.copy.result ≡ Some found.0) × (c.copy-2.result ≡ Some found.1)) c.both.result (got.hash, got.note) c.both.ensures texts.1 in
    let client = held (λ copy. copy ≡ option_copied front.client) c.copy_maybe.result got.client c.copy_maybe.ensures texts.0 in
    let hash = held (λ copy. copy ≡ middle.hash.now) c.copy.result got.hash c.copy.ensures inner.0 in
    let note = held (λ copy. copy ≡ middle.note.now) c.copy-2.result got.note c.copy-2.ensures inner.1 in
    let scopes = held (λ scopes. (c.in_ok-text-2.text.now ≡ compact_text (lines scope_text scopes) ++ codes "}") × AllByRecursion IsScope scopes) c.last_scopes.result got.scopes c.last_scopes.ensures got.ensures.1 in
    let kind : c.args.row.now.kind ≡ 5 = omega (arith, c.if-row-ne5.false) in
    let text = token_text got.client (option_copied front.client) c.in_ok-created.created front.seconds (maybe whole front.expires_at) got.hash middle.hash.now (maybe (λ key. string (server_text key)) middle.issued_for)
    got.note middle.note.now (string (owner_text c.in-Some-cut_owner.owner)) (lines scope_text got.scopes) _ _ _ _ _ _ client c.in_ok-created.ensures.0 hash note
    front.ensures.text middle.ensures.text c.in_ok-text.ensures c.in-Some-cut_owner.ensures.0 c.in_ok-text-2.ensures scopes.0 in (
      record {
        id = c.in_ok-id.ensures.1;
        created = c.in_ok-created.ensures.1;
        expires_at = front.ensures.valid;
        issued_for = middle.ensures.valid;
        owner = c.in-Some-cut_owner.ensures.1;
        scopes = scopes.1;
      },
      λ i. record { kind = kind i; key = (sym c.as_bytes.ensures ∙ c.in_ok-id.ensures.0) i; text = (sym c.as_bytes-2.ensures ∙ text) i },
    )
