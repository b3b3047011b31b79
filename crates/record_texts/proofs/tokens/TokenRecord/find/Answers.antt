use Rattle.std.proofs.Common.{◌≡◌, sym, ap, codes, ℕ, List}
use Rattle.serde_json.specs.Find.{get}
use Rattle.serde_json.specs.View.{view}
use Rattle.key_texts.proofs.Results.{absent}
use Rattle.record_texts.proofs.There.{texts_there}
use Rattle.record_texts.specs.Tokens.{token_object}
use Rattle.record_texts.proofs.tokens.TokenRecord.find.Goals as goal

pub returns-in_err-id : goal.returns-in_err-id
returns-in_err-id c r valid key shape =
    let at : (name : List ℕ) → get name (view c.args.value.now) ≡ get name (token_object r) = λ name. ap (get name) (sym shape) in
    let made_for = c.both-made_for.ensures r.client r.issued_for (c.maybe_text_at.ensures r.client (texts_there r.client) (at (codes "client"))) (c.maybe_text_at-2.ensures r.issued_for valid.issued_for (at (codes "issued_for"))) in
    let times = c.both-times.ensures r.created r.expires_at (c.number_at.ensures r.created valid.created (at (codes "created"))) (c.maybe_number_at.ensures r.expires_at valid.expires_at (at (codes "expires_at"))) in
    let texts = c.both-texts.ensures r.hash r.note (c.text_at.ensures r.hash tt (at (codes "hash"))) (c.text_at-2.ensures r.note tt (at (codes "note"))) in
    let rights = c.both-rights.ensures r.owner r.scopes (c.text_at-3.ensures r.owner valid.owner (at (codes "owner"))) (c.texts_at.ensures r.scopes valid.scopes (at (codes "scopes"))) in
    let left = c.both.ensures r.id (r.client, r.issued_for) (c.of_text-id.ensures r.id valid.id key) made_for in
    let right = c.both-3.ensures (r.created, r.expires_at) ((r.hash, r.note), (r.owner, r.scopes)) times (c.both-2.ensures (r.hash, r.note) (r.owner, r.scopes) texts rights) in
    absent _ _ ((r.id, (r.client, r.issued_for)), ((r.created, r.expires_at), ((r.hash, r.note), (r.owner, r.scopes)))) r c.from_residual.ensures.1 (c.in_err-id.ensures (r.id, (r.client, r.issued_for)) ((r.created, r.expires_at), ((r.hash, r.note), (r.owner, r.scopes))) left right)

pub returns : goal.returns
returns c r valid key shape =
    let at : (name : List ℕ) → get name (view c.args.value.now) ≡ get name (token_object r) = λ name. ap (get name) (sym shape) in
    let made_for = c.both-made_for.ensures r.client r.issued_for (c.maybe_text_at.ensures r.client (texts_there r.client) (at (codes "client"))) (c.maybe_text_at-2.ensures r.issued_for valid.issued_for (at (codes "issued_for"))) in
    let times = c.both-times.ensures r.created r.expires_at (c.number_at.ensures r.created valid.created (at (codes "created"))) (c.maybe_number_at.ensures r.expires_at valid.expires_at (at (codes "expires_at"))) in
    let texts = c.both-texts.ensures r.hash r.note (c.text_at.ensures r.hash tt (at (codes "hash"))) (c.text_at-2.ensures r.note tt (at (codes "note"))) in
    let rights = c.both-rights.ensures r.owner r.scopes (c.text_at-3.ensures r.owner valid.owner (at (codes "owner"))) (c.texts_at.ensures r.scopes valid.scopes (at (codes "scopes"))) in
    let left = c.both.ensures r.id (r.client, r.issued_for) (c.of_text-id.ensures r.id valid.id key) made_for in
    let right = c.both-3.ensures (r.created, r.expires_at) ((r.hash, r.note), (r.owner, r.scopes)) times (c.both-2.ensures (r.hash, r.note) (r.owner, r.scopes) texts rights) in
    let all = c.in_ok-id.ensures (r.id, (r.client, r.issued_for)) ((r.created, r.expires_at), ((r.hash, r.note), (r.owner, r.scopes))) left right in
    λ i. record {
      id = (all i).0.0;
      client = (all i).0.1.0;
      created = (all i).1.0.0;
      expires_at = (all i).1.0.1;
      hash = (all i).1.1.0.0;
      issued_for = (all i).0.1.1;
      note = (all i).1.1.0.1;
      owner = (all i).1.1.1.0;
      scopes = (all i).1.1.1.1;
    }
