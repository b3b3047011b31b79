-- The calls of the authorization code grant: none is answered by a 503, once there is a draw.
use Rattle.std.proofs.Common.{◌≡◌, ◌==◌, ℕ, false, [], ◌∷◌, List, Option, refl}
use Rattle.std.specs.Prelude.{Some, None, IsSome, Result, Ok, Err, codes}
use Rattle.std.specs.FinMap.{contains_key}
use Rattle.hub_kit.specs.Hashes.{draw_text}
use Rattle.scope_filters.specs.declared.holder.Owner.{Owner}
use Rattle.scope_filters.specs.declared.holder.Owner.TheVariants as Own
use Rattle.hub_rows.specs.declared.records.OAuthClient.{OAuthClient}
use Rattle.hub_rows.specs.declared.records.OAuthCode.{OAuthCode}
use Rattle.hub_rows.specs.declared.records.Token.{Token}
use Rattle.hub_tables.specs.Lookups.{next_of}
use Rattle.hub_tables.specs.State.{State}
use Rattle.token_store.specs.Finding.{expired_tokens}
use Rattle.oauth_flow.specs.Clients.{client_of}
use Rattle.oauth_flow.specs.Codes.{expired_codes, made_code}
use Rattle.oauth_flow.specs.Trades.{trade}
use Rattle.oauth_flow.specs.declared.asks.AuthorizeAsk.{AuthorizeAsk}
use Rattle.oauth_flow.specs.declared.asks.OAuthError.{OAuthError}
use Rattle.oauth_flow.specs.declared.asks.OAuthError.TheVariants.{InvalidRequest, InvalidClient, InvalidGrant, UnsupportedGrantType, HashKept, Memory}
use Rattle.oauth_flow.specs.declared.asks.TradeAsk.{TradeAsk}
use Rattle.hub_machine.specs.State.{Hub}
use Rattle.hub_machine.specs.Replies.{Answer, rows_then, if_so, status_of}
use Rattle.hub_machine.specs.declared.refusal.Refusal.{Refusal}
use Rattle.hub_machine.specs.declared.refusal.Refusal.TheVariants.{Exists, Full}
use Rattle.hub_machine.proofs.Statuses.{is_503, no_rule}
use Rattle.access_calls.specs.GrantCalls as calls
use Rattle.access_calls.specs.TokenCalls.{is_without_room}

pub no_refusal : (e : OAuthError) → (status_of (calls.refusal_of e) == 503) ≡ false
no_refusal InvalidRequest = refl
no_refusal InvalidClient = refl
no_refusal (InvalidGrant revoke) = refl
no_refusal UnsupportedGrantType = refl
no_refusal HashKept = refl
no_refusal Memory = refl

by_client : (r : Result OAuthClient OAuthError) (answer : OAuthClient → Answer) → ((client : OAuthClient) → is_503 (answer client) ≡ false) → is_503 (calls.by_client r answer) ≡ false
by_client (Ok client) answer h = h client
by_client (Err e) answer h = no_refusal e

put_code : (t : State) (over : List (List ℕ)) (text : List ℕ) (given : Option (List ℕ)) (code : OAuthCode) → is_503 (calls.put_code t over text given code) ≡ false
put_code t over text given code =
    let full : List (Option Refusal) = if_so (calls.is_full t over) (Full 11 t.limits.codes) ∷ [] in
    no_rule (contains_key t.grant_codes code.hash) (Exists (codes "code")) full (calls.granted code over text given) refl
    (no_rule (calls.is_full t over) (Full 11 t.limits.codes) [] (calls.granted code over text given) refl refl)

grant_to : (t : State) (now : ℕ) (text : List ℕ) (owner : Owner) (given : Option (List ℕ)) (client : OAuthClient) → is_503 (calls.grant_to t now text owner given client) ≡ false
grant_to t now text (Own.User user) given client = put_code t (expired_codes t now) text given (made_code client user text now)
grant_to t now text (Own.Service service) given client = refl

pub get_authorize : (s : Hub) (now : ℕ) (draw : Option (List ℕ)) (owner : Owner) (ask : AuthorizeAsk) → IsSome draw → is_503 (calls.get_authorize s now draw owner ask) ≡ false
get_authorize s now None owner ask h = cc h
get_authorize s now (Some draw) owner ask h =
    by_client (client_of s.tables ask) (calls.grant_to s.tables now (draw_text draw) owner ask.state) (grant_to s.tables now (draw_text draw) owner ask.state)

refuses_without : (token : Option ℕ) (r : Refusal) → (status_of r == 503) ≡ false → is_503 (calls.refuses_without token r) ≡ false
refuses_without None r h = h
refuses_without (Some token) r h = h

traded : (t : State) (now : ℕ) (text : List ℕ) (given : OAuthCode × Token) → is_503 (calls.traded t now text given) ≡ false
traded t now text given =
    let over : List ℕ = expired_tokens t now given.1.owner in
    let answer : Answer = rows_then (calls.trade_rows given.0 given.1 over) (calls.bearer text) in
    no_rule (is_without_room t over) (Full 5 t.limits.tokens) [] answer refl refl

by_trade : (r : Result (OAuthCode × Token) OAuthError) (answer : OAuthCode × Token → Answer) → ((given : OAuthCode × Token) → is_503 (answer given) ≡ false) → is_503 (calls.by_trade r answer) ≡ false
by_trade (Ok given) answer h = h given
by_trade (Err e) answer h = refuses_without (calls.revoked e) (calls.refusal_of e) (no_refusal e)

pub post_trade : (s : Hub) (now : ℕ) (draw : Option (List ℕ)) (ask : TradeAsk) → IsSome draw → is_503 (calls.post_trade s now draw ask) ≡ false
post_trade s now None ask h = cc h
post_trade s now (Some draw) ask h =
    let text : List ℕ = draw_text draw in
    by_trade (trade s.tables ask text (next_of s.tables (codes "token")) now) (calls.traded s.tables now text) (traded s.tables now text)
