-- What a code is traded for, and which rule refuses a trade first.
use Rattle.std.specs.Prelude.{◌≡◌, ℕ, ◌+◌, Bool, true, false, ◌&&◌, not, List, [], ◌∷◌, codes, Option, Some, None, Result, Ok, Err, is_some}
use Rattle.std.specs.Prelude.{is_none, if◌then◌else◌}
use Rattle.std.specs.Option.{option_or}
use Rattle.std.specs.FinMap.{get, contains_key}
use Rattle.hub_kit.specs.Hashes.{hash_text}
use Rattle.hub_kit.specs.Moments.{capped}
use Rattle.hub_kit.specs.declared.names.ServerKey.{ServerKey}
use Rattle.scope_names.specs.declared.action.Action.TheVariants.{AccessServers, AccessServices, ReadUsersName}
use Rattle.scope_filters.specs.Contexts.{same}
use Rattle.scope_filters.specs.declared.holder.Owner.TheVariants as Of
use Rattle.scope_filters.specs.declared.scope.RawFilter.TheVariants as Raw
use Rattle.scope_filters.specs.declared.scope.RawScope.{RawScope}
use Rattle.scope_filters.specs.declared.scope.RawScope.TheVariants.{Plain}
use Rattle.hub_rows.specs.declared.records.OAuthClient.{OAuthClient}
use Rattle.hub_rows.specs.declared.records.OAuthCode.{OAuthCode}
use Rattle.hub_rows.specs.declared.records.Token.{Token}
use Rattle.hub_tables.specs.Ends.{is_over}
use Rattle.hub_tables.specs.Lookups.{token_of_hash}
use Rattle.hub_tables.specs.State.{State}
use Rattle.oauth_flow.specs.Asks.{is_text, if_so, by_rule}
use Rattle.oauth_flow.specs.Clients.{client_named, whose}
use Rattle.oauth_flow.specs.declared.asks.OAuthError.{OAuthError}
use Rattle.oauth_flow.specs.declared.asks.OAuthError.TheVariants.{InvalidRequest, InvalidClient, InvalidGrant, UnsupportedGrantType}
use Rattle.oauth_flow.specs.declared.asks.OAuthError.TheVariants.{HashKept}
use Rattle.oauth_flow.specs.declared.asks.TradeAsk.{TradeAsk}
use Rattle.oauth_flow.specs.declared.clients.ClientOwner.{ClientOwner}
use Rattle.oauth_flow.specs.declared.clients.ClientOwner.TheVariants.{Server, Service}

-- ---- the token

-- two weeks
abbrev pub life_of_token : ℕ
life_of_token = 1209600

abbrev user_name : RawScope
user_name = Plain ReadUsersName Raw.HolderUser

-- access to the server or the service whose client it is
abbrev pub access : ClientOwner → RawScope
access (Server server) = Plain AccessServers Raw.HolderServer
access (Service service) = Plain AccessServices (Raw.Service service)

-- that, and the name of the user
abbrev pub traded_scopes : Option ClientOwner → List RawScope
traded_scopes None = []
traded_scopes (Some client) = access client ∷ user_name ∷ []

-- The server whose client it is, if it is a server's
abbrev pub traded_for : Option ClientOwner → Option ServerKey
traded_for (Some (Server server)) = Some server
traded_for _ = None

-- The token that a code is traded for at the moment `now`, with this hash and id: its user's, for two weeks, with the scopes of its client
abbrev pub traded_token : OAuthCode → (hash : List ℕ) → (id now : ℕ) → Token
traded_token code hash id now = record {
  id = id;
  client = Some code.client;
  created = now;
  expires_at = Some (capped (now + life_of_token));
  hash = hash;
  issued_for = traded_for (whose code.client);
  note = [];
  owner = Of.User code.owner;
  scopes = traded_scopes (whose code.client);
}

-- ---- the rules in their order

-- the secret is the client's
abbrev pub has_secret : (secret : Option (List ℕ)) → Option OAuthClient → Bool
has_secret secret None = false
has_secret None (Some client) = false
has_secret (Some secret) (Some client) = same (hash_text secret) client.hash

-- All fields are there that a trade needs beside the type of its grant
abbrev pub is_whole : TradeAsk → Bool
is_whole ask = is_some ask.code && is_some ask.redirect_uri && is_some ask.client_id && is_some ask.client_secret

-- what refuses a trade whatever its code is
abbrev pub refused : State → TradeAsk → Option OAuthError
refused t ask =
    option_or (if_so (is_none ask.grant_type) InvalidRequest)
    (option_or (if_so (not (is_text (codes "authorization_code") ask.grant_type)) UnsupportedGrantType)
    (option_or (if_so (not (is_whole ask)) InvalidRequest)
    (if_so (not (has_secret ask.client_secret (client_named t ask.client_id))) InvalidClient)))

-- ---- the code

-- the kept code of a text
abbrev pub code_named : State → (text : Option (List ℕ)) → Option OAuthCode
code_named t None = None
code_named t (Some text) = get t.grant_codes (hash_text text)

-- it was made for this client at this URI
abbrev pub is_asked : TradeAsk → OAuthCode → Bool
is_asked ask code = is_text code.client ask.client_id && is_text code.redirect_uri ask.redirect_uri

-- The token, where it is kept
abbrev pub if_kept : State → (token : ℕ) → Option ℕ
if_kept t token = if contains_key t.tokens token then Some token else None

-- A kept token has this hash
abbrev pub is_hash_kept : State → (hash : List ℕ) → Bool
is_hash_kept t hash = is_some (token_of_hash t hash)

-- What a code that wasn't used before is traded for: it must not have expired, and the new token's hash must not be kept
abbrev pub unused : State → OAuthCode → (text : List ℕ) → (id now : ℕ) → Result (OAuthCode × Token) OAuthError
unused t code text id now =
    by_rule (option_or (if_so (is_over now (Some code.expires_at)) (InvalidGrant None)) (if_so (is_hash_kept t (hash_text text)) HashKept))
    (Ok (record code { token = Some id }, traded_token code (hash_text text) id now))

-- a code that was used already tells the token that it was traded for, where that is kept
abbrev pub by_use : State → OAuthCode → (text : List ℕ) → (id now : ℕ) → (used : Option ℕ) → Result (OAuthCode × Token) OAuthError
by_use t code text id now None = unused t code text id now
by_use t code text id now (Some token) = Err (InvalidGrant (if_kept t token))

-- What a kept code is traded for, if there is one: it must be one of this client and URI
abbrev pub on_code : State → TradeAsk → (text : List ℕ) → (id now : ℕ) → Option OAuthCode → Result (OAuthCode × Token) OAuthError
on_code t ask text id now None = Err (InvalidGrant None)
on_code t ask text id now (Some code) = if is_asked ask code then by_use t code text id now code.token else Err (InvalidGrant None)

-- the code as it is used from now on, and the token of this text, under this id, that it is traded for
abbrev pub trade : State → TradeAsk → (text : List ℕ) → (id now : ℕ) → Result (OAuthCode × Token) OAuthError
trade t ask text id now = by_rule (refused t ask) (on_code t ask text id now (code_named t ask.code))

-- ---- what is revoked

-- the trade is for a kept code of this client and URI, which was used, and traded for this kept token
pub record Revokes (t : State) (ask : TradeAsk) (token : ℕ) : Type 0 where
  pub code : OAuthCode
  pub allowed : refused t ask ≡ None
  pub kept : code_named t ask.code ≡ Some code
  pub asked : is_asked ask code ≡ true
  pub used : code.token ≡ Some token
  pub there : contains_key t.tokens token ≡ true
