use Rattle.std.proofs.Common.{◌∙◌, ap, ◌++◌, append_assoc, codes, ℕ, List}
use Rattle.hub_kit.specs.Hashes.{hash_text}
use Rattle.hub_calls.proofs.starts.client.Goals as goal

pub returns : goal.returns
returns c =
    let server = c.args.server.now in
    let id = c.in_ok-of_server.ensures ∙ ap (λ (name : List ℕ). codes "server:" ++ name) (append_assoc server.user (codes "/") server.server) in
    let hash = c.in_ok-hash_of.ensures ∙ ap hash_text c.as_bytes.ensures in
    let callback = c.in_ok-push_str.ensures.ok ∙ ap (λ (url : List ℕ). url ++ codes "oauth_callback") c.in_ok-redirect_uri.ensures in
    λ i. record { id = id i; hash = hash i; redirect_uri = callback i }
