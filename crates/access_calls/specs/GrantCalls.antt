-- The calls of the authorization code grant (RFC 6749, section 4.1).
use Rattle.std.specs.Prelude.{ℕ, ◌-◌, Bool, true, false, nat_le, List, [], ◌∷◌, ◌++◌, map, length, codes, Option, Some, None, Result, Ok}
use Rattle.std.specs.Prelude.{Err}
use Rattle.std.specs.FinMap.{contains_key, len}
use Rattle.form_urlencoded.specs.Form.{append_pair}
use Rattle.hub_kit.specs.Hashes.{draw_text}
use Rattle.scope_filters.specs.declared.holder.Owner.{Owner}
use Rattle.scope_filters.specs.declared.holder.Owner.TheVariants as Own
use Rattle.hub_rows.specs.declared.changes.RowChange.{RowChange}
use Rattle.hub_rows.specs.declared.changes.RowChange.TheVariants.{Put, Remove}
use Rattle.hub_rows.specs.declared.records.OAuthClient.{OAuthClient}
use Rattle.hub_rows.specs.declared.records.OAuthCode.{OAuthCode}
use Rattle.hub_rows.specs.declared.records.Token.{Token}
use Rattle.hub_rows.specs.declared.rows.Row.TheVariants as Row
use Rattle.hub_rows.specs.declared.rows.RowKey.TheVariants as RowKey
use Rattle.hub_tables.specs.Lookups.{next_of}
use Rattle.hub_tables.specs.State.{State}
use Rattle.token_store.specs.Finding.{expired_tokens}
use Rattle.oauth_flow.specs.Clients.{client_of}
use Rattle.oauth_flow.specs.Codes.{expired_codes, made_code}
use Rattle.oauth_flow.specs.Trades.{life_of_token, trade}
use Rattle.oauth_flow.specs.declared.asks.AuthorizeAsk.{AuthorizeAsk}
use Rattle.oauth_flow.specs.declared.asks.OAuthError.{OAuthError}
use Rattle.oauth_flow.specs.declared.asks.OAuthError.TheVariants as No
use Rattle.oauth_flow.specs.declared.asks.TradeAsk.{TradeAsk}
use Rattle.hub_view.specs.Json.{Json, line, pairs, whole}
use Rattle.hub_machine.specs.State.{Hub}
use Rattle.hub_machine.specs.Replies.{Answer, refuses, refuses_with, rows_then, Good, rules, if_so}
use Rattle.hub_machine.specs.declared.change.Change.TheVariants.{Rows}
use Rattle.hub_machine.specs.declared.refusal.Refusal.{Refusal}
use Rattle.hub_machine.specs.declared.refusal.Refusal.TheVariants.{Exists, Full, Grant, NeedsUser, NoDraw}
use Rattle.access_calls.specs.TokenCalls.{is_without_room, token_rows}

-- how a refusal of the rules is said. That a hash is kept is no word of the grant, and want of memory is no answer of the rules
abbrev pub refusal_of : OAuthError → Refusal
refusal_of No.InvalidRequest = Grant (codes "invalid_request")
refusal_of No.InvalidClient = Grant (codes "invalid_client")
refusal_of (No.InvalidGrant revoke) = Grant (codes "invalid_grant")
refusal_of No.UnsupportedGrantType = Grant (codes "unsupported_grant_type")
refusal_of No.HashKept = Exists (codes "token")
refusal_of No.Memory = Grant []

-- ---- GET /oauth2/authorize

-- why no client asks, if none does
abbrev pub refusal_in : Result OAuthClient OAuthError → Option Refusal
refusal_in (Ok client) = None
refusal_in (Err error) = Some (refusal_of error)

-- Why no client asks for this authorization, if none does
abbrev pub client_refusal : State → AuthorizeAsk → Option Refusal
client_refusal t ask = refusal_in (client_of t ask)

-- an absent state is empty, and a client that asks has given one
abbrev pub text_in : Option (List ℕ) → List ℕ
text_in None = []
text_in (Some text) = text

-- the code and the state as a form
abbrev pub grant_form : (code state : List ℕ) → List ℕ
grant_form code state = append_pair (append_pair [] (codes "code") code) (codes "state") state

-- where the user goes on: at the client's URI, with the form as its query
abbrev pub place_of : (uri code state : List ℕ) → List ℕ
place_of uri code state = uri ++ (codes "?" ++ grant_form code state)

-- a reply without body
abbrev pub sent_to : (place : List ℕ) → Good
sent_to place = record { status = 302; body = []; location = Some place; no_store = false }

-- there is no room for a code more once those that are over have gone
abbrev pub is_full : State → (over : List (List ℕ)) → Bool
is_full t over = nat_le t.limits.codes (len t.grant_codes - length over)

-- What refuses a new code, in this order, where those in `over` go with it: its hash is kept, or there is no room for it
abbrev pub code_rules : State → (over : List (List ℕ)) → OAuthCode → List (Option Refusal)
code_rules t over code =
    if_so (contains_key t.grant_codes code.hash) (Exists (codes "code"))
    ∷ if_so (is_full t over) (Full 11 t.limits.codes)
    ∷ []

-- The codes with these hashes go
abbrev pub removals : (hashes : List (List ℕ)) → List RowChange
removals hashes = map (λ hash. Remove (RowKey.OAuthCode hash)) hashes

-- it is put, and the codes that are over go
abbrev pub code_rows : OAuthCode → (over : List (List ℕ)) → List RowChange
code_rows code over = Put (Row.OAuthCode code) ∷ removals over

-- the one reply that tells the text of a code
abbrev pub granted : OAuthCode → (over : List (List ℕ)) → (text : List ℕ) → (given : Option (List ℕ)) → Answer
granted code over text given = rows_then (code_rows code over) (sent_to (place_of code.redirect_uri text (text_in given)))

-- The answer for a new code of this text, where those in `over` go with it; `given` is the state that the client gave
abbrev pub put_code : State → (over : List (List ℕ)) → (text : List ℕ) → (given : Option (List ℕ)) → OAuthCode → Answer
put_code t over text given code = rules (code_rules t over code) (granted code over text given)

-- a code is for a user. All codes that are over go with the same change
abbrev pub grant_to : State → (now : ℕ) → (text : List ℕ) → Owner → (given : Option (List ℕ)) → OAuthClient → Answer
grant_to t now text (Own.User user) given client = put_code t (expired_codes t now) text given (made_code client user text now)
grant_to t now text (Own.Service service) given client = refuses NeedsUser

-- the answer for the client that asks, or the refusal
abbrev pub by_client : Result OAuthClient OAuthError → (OAuthClient → Answer) → Answer
by_client (Ok client) answer = answer client
by_client (Err error) answer = refuses (refusal_of error)

-- The answer to an authorization for this owner, at the moment `now`, whose code has this text
abbrev pub authorize : State → (now : ℕ) → (text : List ℕ) → Owner → AuthorizeAsk → Answer
authorize t now text owner ask = by_client (client_of t ask) (grant_to t now text owner ask.state)

-- its text is that of the draw, and it is for the owner of the token that the call brings
abbrev pub get_authorize : Hub → (now : ℕ) → (draw : Option (List ℕ)) → Owner → AuthorizeAsk → Answer
get_authorize s now None owner ask = refuses NoDraw
get_authorize s now (Some draw) owner ask = authorize s.tables now (draw_text draw) owner ask

-- ---- POST /oauth2/token

-- RFC 6749, section 5.1
abbrev pub bearer_body : (text : List ℕ) → Json
bearer_body text =
    pairs ((codes "access_token", line text) ∷ (codes "expires_in", whole life_of_token) ∷ (codes "token_type", line (codes "Bearer")) ∷ [])

-- the one reply that tells the text of the token, and that nobody may store
abbrev pub bearer : (text : List ℕ) → Good
bearer text = record { status = 200; body = bearer_body text; location = None; no_store = true }

-- the code as it is used from now on, and the rows of a new token
abbrev pub trade_rows : OAuthCode → Token → (over : List ℕ) → List RowChange
trade_rows code token over = Put (Row.OAuthCode code) ∷ token_rows token over

-- The answer for a code that is traded for a token of this text, where the tokens in `over` go with it
abbrev pub put_traded : State → (over : List ℕ) → (text : List ℕ) → OAuthCode → Token → Answer
put_traded t over text code token = rules (if_so (is_without_room t over) (Full 5 t.limits.tokens) ∷ [])
    (rows_then (trade_rows code token over) (bearer text))

-- the owner's tokens that are over go with the same change
abbrev pub traded : State → (now : ℕ) → (text : List ℕ) → OAuthCode × Token → Answer
traded t now text given = put_traded t (expired_tokens t now given.1.owner) text given.0 given.1

-- the token that a used code was traded for
abbrev pub revoked : OAuthError → Option ℕ
revoked (No.InvalidGrant token) = token
revoked error = None

-- a refusal, with which a token goes, if one does
abbrev pub refuses_without : (token : Option ℕ) → Refusal → Answer
refuses_without None refusal = refuses refusal
refuses_without (Some token) refusal = refuses_with (Rows (Remove (RowKey.Token token) ∷ [])) refusal

-- The answer to a trade that is refused: a code that was used before takes the token along that it was traded for
abbrev pub refused_trade : OAuthError → Answer
refused_trade error = refuses_without (revoked error) (refusal_of error)

-- The answer for what a code is traded for, or the refusal of the trade
abbrev pub by_trade : Result (OAuthCode × Token) OAuthError → (OAuthCode × Token → Answer) → Answer
by_trade (Ok given) answer = answer given
by_trade (Err error) answer = refused_trade error

-- the token is of the next number
abbrev pub trade_for : State → (now : ℕ) → (text : List ℕ) → TradeAsk → Answer
trade_for t now text ask = by_trade (trade t ask text (next_of t (codes "token")) now) (traded t now text)

-- its text is that of the draw
abbrev pub post_trade : Hub → (now : ℕ) → (draw : Option (List ℕ)) → TradeAsk → Answer
post_trade s now None ask = refuses NoDraw
post_trade s now (Some draw) ask = trade_for s.tables now (draw_text draw) ask
