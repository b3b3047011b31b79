use Rattle.std.proofs.Common.{◌≡◌, sym, ap, codes, ℕ, List}
use Rattle.serde_json.specs.Find.{get}
use Rattle.serde_json.specs.View.{view}
use Rattle.key_texts.proofs.Results.{absent}
use Rattle.record_texts.specs.Tokens.{grant_code_object}
use Rattle.record_texts.proofs.tokens.OAuthCodeRecord.find.Goals as goal

pub returns-in_err-hash : goal.returns-in_err-hash
returns-in_err-hash c r valid key shape =
    let at : (name : List ℕ) → get name (view c.args.value.now) ≡ get name (grant_code_object r) = λ name. ap (get name) (sym shape) in
    let left = c.both-names.ensures r.hash r.client (c.of_text.ensures r.hash tt key) (c.text_at.ensures r.client tt (at (codes "client"))) in
    let numbers = c.both-numbers.ensures r.expires_at r.token (c.number_at.ensures r.expires_at valid.expires_at (at (codes "expires_at"))) (c.maybe_number_at.ensures r.token valid.token (at (codes "token"))) in
    let texts = c.both-texts.ensures r.owner r.redirect_uri (c.text_at-2.ensures r.owner valid.owner (at (codes "owner"))) (c.text_at-3.ensures r.redirect_uri tt (at (codes "redirect_uri"))) in
    let right = c.both.ensures (r.expires_at, r.token) (r.owner, r.redirect_uri) numbers texts in
    absent _ _ ((r.hash, r.client), ((r.expires_at, r.token), (r.owner, r.redirect_uri))) r c.from_residual.ensures.1 (c.in_err-hash.ensures (r.hash, r.client) ((r.expires_at, r.token), (r.owner, r.redirect_uri)) left right)

pub returns : goal.returns
returns c r valid key shape =
    let at : (name : List ℕ) → get name (view c.args.value.now) ≡ get name (grant_code_object r) = λ name. ap (get name) (sym shape) in
    let left = c.both-names.ensures r.hash r.client (c.of_text.ensures r.hash tt key) (c.text_at.ensures r.client tt (at (codes "client"))) in
    let numbers = c.both-numbers.ensures r.expires_at r.token (c.number_at.ensures r.expires_at valid.expires_at (at (codes "expires_at"))) (c.maybe_number_at.ensures r.token valid.token (at (codes "token"))) in
    let texts = c.both-texts.ensures r.owner r.redirect_uri (c.text_at-2.ensures r.owner valid.owner (at (codes "owner"))) (c.text_at-3.ensures r.redirect_uri tt (at (codes "redirect_uri"))) in
    let right = c.both.ensures (r.expires_at, r.token) (r.owner, r.redirect_uri) numbers texts in
    let all = c.in_ok-hash.ensures (r.hash, r.client) ((r.expires_at, r.token), (r.owner, r.redirect_uri)) left right in
    λ i. record {
      hash = (all i).0.0;
      client = (all i).0.1;
      expires_at = (all i).1.0.0;
      owner = (all i).1.1.0;
      redirect_uri = (all i).1.1.1;
      token = (all i).1.0.1;
    }
