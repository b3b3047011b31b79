-- The calls, each as a function of the request that asks it: the names of its path, then its query, then its body, then its scopes.
use Rattle.std.specs.Prelude.{ℕ, Bool, List, [], codes, Option, Result, Ok}
use Rattle.http_wire.specs.declared.request.Request.{Request}
use Rattle.hub_machine.specs.declared.call.Call.{Call}
use Rattle.hub_machine.specs.declared.call.Call.TheVariants.{GetIdentity, GetUsers, PostUsers, GetUser, PostUser, PatchUser, DeleteUser}
use Rattle.hub_machine.specs.declared.call.Call.TheVariants.{PostActivity, PostServer, DeleteServer, GetTokens, PostToken, GetToken}
use Rattle.hub_machine.specs.declared.call.Call.TheVariants.{DeleteToken, GetShares, AcceptCode, PostShare, PatchShare, DeleteShares}
use Rattle.hub_machine.specs.declared.call.Call.TheVariants.{GetCodes, PostCode, DeleteCodes, GetGroups, GetGroup, PostGroup, DeleteGroup}
use Rattle.hub_machine.specs.declared.call.Call.TheVariants.{JoinGroup, LeaveGroup, GetServices, GetService, PostService, DeleteService}
use Rattle.hub_machine.specs.declared.call.Call.TheVariants.{GetRoles, GetRole, PutRole, DeleteRole, GetAuthorize, PostTrade}
use Rattle.hub_rows.specs.declared.keys.Recipient.{Recipient}
use Rattle.oauth_flow.specs.declared.asks.AuthorizeAsk.{AuthorizeAsk}
use Rattle.oauth_flow.specs.declared.asks.TradeAsk.{TradeAsk}
use Rattle.scope_filters.specs.declared.scope.RawScope.{RawScope}
use Rattle.shares.specs.declared.lists.CodesOf.TheVariants as Codes
use Rattle.shares.specs.declared.lists.SharesOf.TheVariants as Shares
use Rattle.request_parts.specs.Steps.{◌>>=◌}
use Rattle.hub_kit.specs.declared.names.ServerKey.{ServerKey}
use Rattle.request_parts.specs.Names.{server_of as named_server}
use Rattle.request_parts.specs.Queries.{plain_decimal_of, query_value}
use Rattle.hub_api.specs.Names.{name_at, read_at}
use Rattle.hub_api.specs.Queries.{id_of, page_of, server_of}
use Rattle.hub_paths.specs.declared.paths.Path.{Path}
use Rattle.hub_paths.specs.declared.paths.Path.TheVariants.{User, Activity, DefaultServer, NamedServer, Tokens, Token, Shared, GivenShares}
use Rattle.hub_paths.specs.declared.paths.Path.TheVariants.{ServerShares, GivenCodes, ServerCodes, Group, Members, Service, Role}
use Rattle.hub_api.specs.Bodies.{body_of, needed_truth, truth, names, some_names, distinct_names, moment, activity, scope_texts, scopes}
use Rattle.hub_api.specs.Bodies.{note, seconds, life, needed_text, recipient}
use Rattle.hub_api.specs.declared.refusal.ApiRefusal.{ApiRefusal}

-- GET /user
unfoldable pub get_identity : Request → Result Call ApiRefusal
get_identity q = do
  server ← server_of q
  Ok (GetIdentity server)

-- ---- users

abbrev pub user_at : Request → Result (List ℕ) ApiRefusal
user_at q = name_at User (codes "{user}") q

-- GET /users
unfoldable pub get_users : Request → Result Call ApiRefusal
get_users q = do
  page ← page_of q
  Ok (GetUsers page)

-- POST /users
unfoldable pub post_users : Request → Result Call ApiRefusal
post_users q = do
  body ← body_of q
  usernames ← distinct_names (codes "usernames") body
  admin ← truth (codes "admin") body
  Ok (PostUsers usernames admin)

-- GET /users/{user}
abbrev pub get_user : Request → Result Call ApiRefusal
get_user q = do
  user ← user_at q
  Ok (GetUser user)

-- POST /users/{user}
abbrev pub post_user : Request → Result Call ApiRefusal
post_user q = do
  user ← user_at q
  Ok (PostUser user)

-- PATCH /users/{user}
unfoldable pub patch_user : Request → Result Call ApiRefusal
patch_user q = do
  user ← user_at q
  body ← body_of q
  admin ← needed_truth (codes "admin") body
  Ok (PatchUser user admin)

-- DELETE /users/{user}
abbrev pub delete_user : Request → Result Call ApiRefusal
delete_user q = do
  user ← user_at q
  Ok (DeleteUser user)

-- POST /users/{user}/activity
unfoldable pub post_activity : Request → Result Call ApiRefusal
post_activity q = do
  user ← name_at Activity (codes "{user}") q
  body ← body_of q
  last_activity ← moment (codes "last_activity") body
  servers ← activity (codes "servers") body
  Ok (PostActivity user last_activity servers)

-- ---- servers

-- the default server of the user that the path names
unfoldable pub default_server_at : Request → Result ServerKey ApiRefusal
default_server_at q = do
  user ← name_at DefaultServer (codes "{user}") q
  Ok (record { user = user; server = [] })

-- the server that the path names
unfoldable pub named_server_at : Request → Result ServerKey ApiRefusal
named_server_at q = do
  user ← name_at NamedServer (codes "{user}") q
  server ← read_at named_server NamedServer (codes "{server}") q
  Ok (record { user = user; server = server })

abbrev pub remove_of : Request → Result Bool ApiRefusal
remove_of q = do
  body ← body_of q
  truth (codes "remove") body

-- POST /users/{user}/server
abbrev pub post_default_server : Request → Result Call ApiRefusal
post_default_server q = do
  server ← default_server_at q
  Ok (PostServer server)

-- POST /users/{user}/servers/{server}
abbrev pub post_named_server : Request → Result Call ApiRefusal
post_named_server q = do
  server ← named_server_at q
  Ok (PostServer server)

-- DELETE /users/{user}/server
abbrev pub delete_default_server : Request → Result Call ApiRefusal
delete_default_server q = do
  server ← default_server_at q
  remove ← remove_of q
  Ok (DeleteServer server remove)

-- DELETE /users/{user}/servers/{server}
abbrev pub delete_named_server : Request → Result Call ApiRefusal
delete_named_server q = do
  server ← named_server_at q
  remove ← remove_of q
  Ok (DeleteServer server remove)

-- ---- tokens

abbrev pub owner_at : Request → Result (List ℕ) ApiRefusal
owner_at q = name_at Tokens (codes "{user}") q

-- GET /users/{user}/tokens
abbrev pub get_tokens : Request → Result Call ApiRefusal
get_tokens q = do
  user ← owner_at q
  Ok (GetTokens user)

-- POST /users/{user}/tokens: its texts of scopes are read once the whole body is of its form
unfoldable pub post_token : Request → Result Call ApiRefusal
post_token q = do
  owner ← owner_at q
  body ← body_of q
  texts ← scope_texts body
  words ← note (codes "note") body
  life ← seconds (codes "expires_in") body
  asked ← scopes texts
  Ok (PostToken (record { owner = owner; scopes = asked; note = words; expires_in = life }))

-- the user and the id that the path names; an id is decimal digits without a leading zero
unfoldable pub token_at : Request → Result (List ℕ × ℕ) ApiRefusal
token_at q = do
  user ← name_at Token (codes "{user}") q
  id ← read_at plain_decimal_of Token (codes "{id}") q
  Ok (user, id)

-- GET /users/{user}/tokens/{id}
abbrev pub get_token : Request → Result Call ApiRefusal
get_token q = do
  named ← token_at q
  Ok (GetToken named.0 named.1)

-- DELETE /users/{user}/tokens/{id}
abbrev pub delete_token : Request → Result Call ApiRefusal
delete_token q = do
  named ← token_at q
  Ok (DeleteToken named.0 named.1)

-- ---- shares and share codes

-- the server that the path names; behind a last slash stands the empty name, that of the default server
unfoldable pub server_at : Path → Request → Result ServerKey ApiRefusal
server_at path q = do
  user ← name_at path (codes "{owner}") q
  server ← read_at named_server path (codes "{server}") q
  Ok (record { user = user; server = server })

-- GET /users/{user}/shared
unfoldable pub get_shared : Request → Result Call ApiRefusal
get_shared q = do
  user ← name_at Shared (codes "{user}") q
  page ← page_of q
  Ok (GetShares (Shares.Recipient user) page)

-- POST /users/{user}/shared
unfoldable pub accept_code : Request → Result Call ApiRefusal
accept_code q = do
  user ← name_at Shared (codes "{user}") q
  body ← body_of q
  code ← needed_text (codes "code") body
  Ok (AcceptCode user code)

-- GET /shares/{owner}
unfoldable pub get_given_shares : Request → Result Call ApiRefusal
get_given_shares q = do
  owner ← name_at GivenShares (codes "{owner}") q
  page ← page_of q
  Ok (GetShares (Shares.Owner owner) page)

-- GET /shares/{owner}/{server}
unfoldable pub get_server_shares : Request → Result Call ApiRefusal
get_server_shares q = do
  server ← server_at ServerShares q
  page ← page_of q
  Ok (GetShares (Shares.Server server) page)

-- a server, with whom it is shared or no longer shared, and the scopes: their texts are read once the whole body is of its form
unfoldable pub share_at : Request → Result (ServerKey × Option Recipient × List RawScope) ApiRefusal
share_at q = do
  server ← server_at ServerShares q
  body ← body_of q
  to ← recipient body
  texts ← scope_texts body
  asked ← scopes texts
  Ok (server, to, asked)

-- POST /shares/{owner}/{server}
abbrev pub post_share : Request → Result Call ApiRefusal
post_share q = do
  named ← share_at q
  Ok (PostShare named.0 named.1 named.2)

-- PATCH /shares/{owner}/{server}
abbrev pub patch_share : Request → Result Call ApiRefusal
patch_share q = do
  named ← share_at q
  Ok (PatchShare named.0 named.1 named.2)

-- DELETE /shares/{owner}/{server}
abbrev pub delete_shares : Request → Result Call ApiRefusal
delete_shares q = do
  server ← server_at ServerShares q
  Ok (DeleteShares server)

-- GET /share-codes/{owner}
unfoldable pub get_given_codes : Request → Result Call ApiRefusal
get_given_codes q = do
  owner ← name_at GivenCodes (codes "{owner}") q
  page ← page_of q
  Ok (GetCodes (Codes.Owner owner) page)

-- GET /share-codes/{owner}/{server}
unfoldable pub get_server_codes : Request → Result Call ApiRefusal
get_server_codes q = do
  server ← server_at ServerCodes q
  page ← page_of q
  Ok (GetCodes (Codes.Server server) page)

-- POST /share-codes/{owner}/{server}: its texts of scopes are read once the whole body is of its form
unfoldable pub post_code : Request → Result Call ApiRefusal
post_code q = do
  server ← server_at ServerCodes q
  body ← body_of q
  texts ← scope_texts body
  seconds ← life (codes "expires_in") body
  asked ← scopes texts
  Ok (PostCode server asked seconds)

-- DELETE /share-codes/{owner}/{server}
unfoldable pub delete_codes : Request → Result Call ApiRefusal
delete_codes q = do
  server ← server_at ServerCodes q
  id ← id_of q
  Ok (DeleteCodes server id)

-- ---- groups

abbrev pub group_at : Request → Result (List ℕ) ApiRefusal
group_at q = name_at Group (codes "{group}") q

-- GET /groups
unfoldable pub get_groups : Request → Result Call ApiRefusal
get_groups q = do
  page ← page_of q
  Ok (GetGroups page)

-- GET /groups/{group}
abbrev pub get_group : Request → Result Call ApiRefusal
get_group q = do
  group ← group_at q
  Ok (GetGroup group)

-- POST /groups/{group}
unfoldable pub post_group : Request → Result Call ApiRefusal
post_group q = do
  group ← group_at q
  body ← body_of q
  users ← names (codes "users") body
  Ok (PostGroup group users)

-- DELETE /groups/{group}
abbrev pub delete_group : Request → Result Call ApiRefusal
delete_group q = do
  group ← group_at q
  Ok (DeleteGroup group)

-- a group, and the users that the body names
unfoldable pub members_at : Request → Result (List ℕ × List (List ℕ)) ApiRefusal
members_at q = do
  group ← name_at Members (codes "{group}") q
  body ← body_of q
  users ← some_names (codes "users") body
  Ok (group, users)

-- POST /groups/{group}/users
abbrev pub join_group : Request → Result Call ApiRefusal
join_group q = do
  named ← members_at q
  Ok (JoinGroup named.0 named.1)

-- DELETE /groups/{group}/users
abbrev pub leave_group : Request → Result Call ApiRefusal
leave_group q = do
  named ← members_at q
  Ok (LeaveGroup named.0 named.1)

-- ---- services

abbrev pub service_at : Request → Result (List ℕ) ApiRefusal
service_at q = name_at Service (codes "{service}") q

-- GET /services
unfoldable pub get_services : Request → Result Call ApiRefusal
get_services q = do
  page ← page_of q
  Ok (GetServices page)

-- GET /services/{service}
abbrev pub get_service : Request → Result Call ApiRefusal
get_service q = do
  service ← service_at q
  Ok (GetService service)

-- POST /services/{service}
abbrev pub post_service : Request → Result Call ApiRefusal
post_service q = do
  service ← service_at q
  Ok (PostService service)

-- DELETE /services/{service}
abbrev pub delete_service : Request → Result Call ApiRefusal
delete_service q = do
  service ← service_at q
  Ok (DeleteService service)

-- ---- roles

abbrev pub role_at : Request → Result (List ℕ) ApiRefusal
role_at q = name_at Role (codes "{role}") q

-- GET /roles
unfoldable pub get_roles : Request → Result Call ApiRefusal
get_roles q = do
  page ← page_of q
  Ok (GetRoles page)

-- GET /roles/{role}
abbrev pub get_role : Request → Result Call ApiRefusal
get_role q = do
  role ← role_at q
  Ok (GetRole role)

-- PUT /roles/{role}: its texts of scopes are read once the whole body is of its form
unfoldable pub put_role : Request → Result Call ApiRefusal
put_role q = do
  role ← role_at q
  body ← body_of q
  texts ← scope_texts body
  users ← names (codes "users") body
  groups ← names (codes "groups") body
  services ← names (codes "services") body
  allowed ← scopes texts
  Ok (PutRole role allowed users groups services)

-- DELETE /roles/{role}
abbrev pub delete_role : Request → Result Call ApiRefusal
delete_role q = do
  role ← role_at q
  Ok (DeleteRole role)

-- ---- the authorization code grant: whether a field is missing is for its own rules

-- what the query of an authorization says
abbrev pub authorize_ask : Request → AuthorizeAsk
authorize_ask q = record {
  response_type = query_value (codes "response_type") q.query;
  client_id = query_value (codes "client_id") q.query;
  redirect_uri = query_value (codes "redirect_uri") q.query;
  state = query_value (codes "state") q.query;
}

-- what the body of a trade says, which is a form
abbrev pub trade_ask : Request → TradeAsk
trade_ask q = record {
  grant_type = query_value (codes "grant_type") q.body;
  code = query_value (codes "code") q.body;
  redirect_uri = query_value (codes "redirect_uri") q.body;
  client_id = query_value (codes "client_id") q.body;
  client_secret = query_value (codes "client_secret") q.body;
}

-- GET /oauth2/authorize
abbrev pub get_authorize : Request → Result Call ApiRefusal
get_authorize q = Ok (GetAuthorize (authorize_ask q))

-- POST /oauth2/token
abbrev pub post_trade : Request → Result Call ApiRefusal
post_trade q = Ok (PostTrade (trade_ask q))
