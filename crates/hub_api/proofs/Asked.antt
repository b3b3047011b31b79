-- What an authorization asks, from the values of its query one by one.
use Rattle.std.proofs.Common.{◌≡◌, ◌∙◌, ℕ, List, Option, ap, codes}
use Rattle.http_wire.specs.declared.request.Request.{Request}
use Rattle.oauth_flow.specs.declared.asks.AuthorizeAsk.{AuthorizeAsk}
use Rattle.request_parts.specs.Queries.{query_value}
use Rattle.hub_api.specs.Readings.{authorize_ask}

same_parts : (r r' c c' u u' s s' : Option (List ℕ)) → r ≡ r' → c ≡ c' → u ≡ u' → s ≡ s'
    → (let ask : AuthorizeAsk = record { response_type = r; client_id = c; redirect_uri = u; state = s } in ask)
    ≡ record { response_type = r'; client_id = c'; redirect_uri = u'; state = s' }
same_parts r r' c c' u u' s s' is_type is_client is_uri is_state = cc

pub asked_of : (request : Request) (query : List ℕ) (r c u s : Option (List ℕ)) → query ≡ request.query
    → r ≡ query_value (codes "response_type") query → c ≡ query_value (codes "client_id") query
    → u ≡ query_value (codes "redirect_uri") query → s ≡ query_value (codes "state") query
    → (let ask : AuthorizeAsk = record { response_type = r; client_id = c; redirect_uri = u; state = s } in ask) ≡ authorize_ask request
asked_of request query r c u s is is_type is_client is_uri is_state =
    same_parts r _ c _ u _ s _
    (is_type ∙ ap (query_value (codes "response_type")) is) (is_client ∙ ap (query_value (codes "client_id")) is)
    (is_uri ∙ ap (query_value (codes "redirect_uri")) is) (is_state ∙ ap (query_value (codes "state")) is)
