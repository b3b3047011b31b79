use Rattle.std.proofs.Common.{◌≡◌, sym, ap, codes, ℕ, List}
use Rattle.serde_json.specs.Find.{get}
use Rattle.serde_json.specs.View.{view}
use Rattle.key_texts.proofs.Results.{absent}
use Rattle.record_texts.specs.Tokens.{code_object}
use Rattle.record_texts.proofs.tokens.ShareCodeRecord.find.Goals as goal

pub returns-in_err-id : goal.returns-in_err-id
returns-in_err-id c r valid key shape =
    let at : (name : List ℕ) → get name (view c.args.value.now) ≡ get name (code_object r) = λ name. ap (get name) (sym shape) in
    let times = c.both-times.ensures r.created r.expires_at (c.number_at.ensures r.created valid.created (at (codes "created"))) (c.number_at-2.ensures r.expires_at valid.expires_at (at (codes "expires_at"))) in
    let rights = c.both-rights.ensures r.scopes r.server (c.texts_at.ensures r.scopes valid.scopes (at (codes "scopes"))) (c.text_at.ensures r.server valid.server (at (codes "server"))) in
    let left = c.both.ensures r.id (r.created, r.expires_at) (c.of_text-id.ensures r.id valid.id key) times in
    let right = c.both-2.ensures r.hash (r.scopes, r.server) (c.text_at-hash.ensures r.hash tt (at (codes "hash"))) rights in
    absent _ _ ((r.id, (r.created, r.expires_at)), (r.hash, (r.scopes, r.server))) r c.from_residual.ensures.1 (c.in_err-id.ensures (r.id, (r.created, r.expires_at)) (r.hash, (r.scopes, r.server)) left right)

pub returns : goal.returns
returns c r valid key shape =
    let at : (name : List ℕ) → get name (view c.args.value.now) ≡ get name (code_object r) = λ name. ap (get name) (sym shape) in
    let times = c.both-times.ensures r.created r.expires_at (c.number_at.ensures r.created valid.created (at (codes "created"))) (c.number_at-2.ensures r.expires_at valid.expires_at (at (codes "expires_at"))) in
    let rights = c.both-rights.ensures r.scopes r.server (c.texts_at.ensures r.scopes valid.scopes (at (codes "scopes"))) (c.text_at.ensures r.server valid.server (at (codes "server"))) in
    let left = c.both.ensures r.id (r.created, r.expires_at) (c.of_text-id.ensures r.id valid.id key) times in
    let right = c.both-2.ensures r.hash (r.scopes, r.server) (c.text_at-hash.ensures r.hash tt (at (codes "hash"))) rights in
    let all = c.in_ok-id.ensures (r.id, (r.created, r.expires_at)) (r.hash, (r.scopes, r.server)) left right in
    λ i. record {
      id = (all i).0.0;
      created = (all i).0.1.0;
      expires_at = (all i).0.1.1;
      hash = (all i).1.0;
      scopes = (all i).1.1.0;
      server = (all i).1.1.1;
    }
