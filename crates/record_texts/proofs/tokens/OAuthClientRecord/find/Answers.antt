use Rattle.std.proofs.Common.{◌≡◌, sym, ap, codes, ℕ, List}
use Rattle.serde_json.specs.Find.{get}
use Rattle.serde_json.specs.View.{view}
use Rattle.key_texts.proofs.Results.{absent}
use Rattle.record_texts.specs.Tokens.{client_object}
use Rattle.record_texts.proofs.tokens.OAuthClientRecord.find.Goals as goal

pub returns-in_err-id : goal.returns-in_err-id
returns-in_err-id c r valid key shape =
    let at : (name : List ℕ) → get name (view c.args.value.now) ≡ get name (client_object r) = λ name. ap (get name) (sym shape) in
    let left = c.both-named.ensures r.id r.hash (c.of_text.ensures r.id valid.id key) (c.text_at.ensures r.hash tt (at (codes "hash"))) in
    let right = c.text_at-redirect_uri.ensures r.redirect_uri tt (at (codes "redirect_uri")) in
    absent _ _ ((r.id, r.hash), r.redirect_uri) r c.from_residual.ensures.1 (c.in_err-id.ensures (r.id, r.hash) r.redirect_uri left right)

pub returns : goal.returns
returns c r valid key shape =
    let at : (name : List ℕ) → get name (view c.args.value.now) ≡ get name (client_object r) = λ name. ap (get name) (sym shape) in
    let left = c.both-named.ensures r.id r.hash (c.of_text.ensures r.id valid.id key) (c.text_at.ensures r.hash tt (at (codes "hash"))) in
    let right = c.text_at-redirect_uri.ensures r.redirect_uri tt (at (codes "redirect_uri")) in
    let all = c.in_ok-id.ensures (r.id, r.hash) r.redirect_uri left right in
    λ i. record {
      id = (all i).0.0;
      hash = (all i).0.1;
      redirect_uri = (all i).1;
    }
