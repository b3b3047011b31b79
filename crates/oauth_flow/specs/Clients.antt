-- Clients: which one asks for an authorization, and whose a client is.
use Rattle.std.specs.Prelude.{ℕ, Bool, ◌&&◌, List, codes, Option, Some, None, Result, Ok, Err, is_some, if◌then◌else◌}
use Rattle.std.specs.FinMap.{get}
use Rattle.hub_kit.specs.declared.names.NameError.{NameError}
use Rattle.hub_kit.specs.declared.names.ServerKey.{ServerKey}
use Rattle.hub_kit.specs.Names.{name_read}
use Rattle.hub_kit.specs.ServerKeys.{key_read}
use Rattle.scope_filters.specs.Contexts.{same}
use Rattle.scope_filters.specs.Scopes.{before, after}
use Rattle.hub_rows.specs.declared.records.OAuthClient.{OAuthClient}
use Rattle.hub_tables.specs.State.{State}
use Rattle.oauth_flow.specs.Asks.{is_text}
use Rattle.oauth_flow.specs.declared.asks.AuthorizeAsk.{AuthorizeAsk}
use Rattle.oauth_flow.specs.declared.asks.OAuthError.{OAuthError}
use Rattle.oauth_flow.specs.declared.asks.OAuthError.TheVariants.{InvalidRequest, InvalidClient}
use Rattle.oauth_flow.specs.declared.clients.ClientOwner.{ClientOwner}
use Rattle.oauth_flow.specs.declared.clients.ClientOwner.TheVariants.{Server, Service}

-- ---- whose it is

-- The server of a key that was read, if it is one
abbrev pub of_server : Result ServerKey NameError → Option ClientOwner
of_server (Ok server) = Some (Server server)
of_server (Err e) = None

-- The service of a name that was read, if it is one
abbrev pub of_service : Result (List ℕ) NameError → Option ClientOwner
of_service (Ok service) = Some (Service service)
of_service (Err e) = None

-- Whose client an id is that names this kind, and this name behind its first colon, if it has one
abbrev pub named : (kind : List ℕ) → Option (List ℕ) → Option ClientOwner
named kind None = None
named kind (Some name) =
    if same kind (codes "server") then of_server (key_read name)
    else (if same kind (codes "service") then of_service (name_read name) else None)

-- a server's is `server:USER/SERVER`, a service's `service:NAME`; the id is cut at the first colon
abbrev pub whose : (id : List ℕ) → Option ClientOwner
whose id = named (before 58 id) (after 58 id)

-- ---- which one asks

-- The kept client of this id, if one is named
abbrev pub client_named : State → (id : Option (List ℕ)) → Option OAuthClient
client_named t None = None
client_named t (Some id) = get t.clients id

-- all fields are there, and a code is asked for
abbrev pub is_whole : AuthorizeAsk → Bool
is_whole ask = is_text (codes "code") ask.response_type && is_some ask.client_id && is_some ask.redirect_uri && is_some ask.state

-- The client that asks, where there is one and this is its own URI
abbrev pub at_uri : (uri : Option (List ℕ)) → Option OAuthClient → Result OAuthClient OAuthError
at_uri uri None = Err InvalidClient
at_uri uri (Some client) = if is_text client.redirect_uri uri then Ok client else Err InvalidRequest

-- the kept client that asks, at its own URI
abbrev pub client_of : State → AuthorizeAsk → Result OAuthClient OAuthError
client_of t ask = if is_whole ask then at_uri ask.redirect_uri (client_named t ask.client_id) else Err InvalidRequest
