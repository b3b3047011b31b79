-- What each call needs of its token, and what has to be there.
use Rattle.std.specs.Prelude.{ℕ, Bool, true, false, ◌||◌, ◌&&◌, List, Option, Some, None}
use Rattle.std.specs.FinMap.{contains_key, get}
use Rattle.scope_names.specs.declared.action.Action.TheVariants as A
use Rattle.scope_filters.specs.declared.holder.Owner.TheVariants as Own
use Rattle.scope_filters.specs.declared.object.Object.TheVariants as Ob
use Rattle.hub_kit.specs.declared.names.ServerKey.{ServerKey}
use Rattle.hub_rows.specs.declared.records.ShareCode.{ShareCode}
use Rattle.hub_rows.specs.declared.records.Token.{Token}
use Rattle.hub_tables.specs.Lookups.{has_server, same_owner}
use Rattle.hub_tables.specs.State.{State}
use Rattle.oauth_flow.specs.Clients.{whose as client_owner}
use Rattle.oauth_flow.specs.declared.clients.ClientOwner.{ClientOwner}
use Rattle.oauth_flow.specs.declared.clients.ClientOwner.TheVariants as Whose
use Rattle.shares.specs.Lists.{is_code_of}
use Rattle.shares.specs.declared.lists.CodesOf.{CodesOf}
use Rattle.shares.specs.declared.lists.CodesOf.TheVariants as Codes
use Rattle.shares.specs.declared.lists.SharesOf.{SharesOf}
use Rattle.shares.specs.declared.lists.SharesOf.TheVariants as Shares
use Rattle.admin_rules.specs.Roles.{is_fixed_role}
use Rattle.hub_core.specs.declared.need.Need.{Need}
use Rattle.hub_core.specs.declared.need.Need.TheVariants.{GoodToken, Held, On}
use Rattle.hub_machine.specs.declared.call.Call.{Call}
use Rattle.hub_machine.specs.declared.call.Call.TheVariants.{GetVersion, GetInfo, GetIdentity, GetUsers, PostUsers, GetUser, PostUser}
use Rattle.hub_machine.specs.declared.call.Call.TheVariants.{PatchUser, DeleteUser, PostActivity, PostServer, DeleteServer, GetTokens}
use Rattle.hub_machine.specs.declared.call.Call.TheVariants.{PostToken, GetToken, DeleteToken, GetShares, AcceptCode, PostShare, PatchShare}
use Rattle.hub_machine.specs.declared.call.Call.TheVariants.{DeleteShares, GetCodes, PostCode, DeleteCodes, GetGroups, GetGroup, PostGroup}
use Rattle.hub_machine.specs.declared.call.Call.TheVariants.{DeleteGroup, JoinGroup, LeaveGroup, GetServices, GetService, PostService}
use Rattle.hub_machine.specs.declared.call.Call.TheVariants.{DeleteService, GetRoles, GetRole, PutRole, DeleteRole, GetAuthorize, PostTrade}
use Rattle.hub_machine.specs.declared.call.Call.TheVariants.{GetProxy, PostProxy}

-- shares that a user received, those that a user gave, and those of a server
abbrev pub needs_shares : SharesOf → Need
needs_shares (Shares.Recipient user) = On A.ReadUsersShares (Ob.User user)
needs_shares (Shares.Owner user) = On A.ReadShares (Ob.User user)
needs_shares (Shares.Server server) = On A.ReadShares (Ob.Server server)

-- The codes that a user offers, and those of a server
abbrev pub needs_codes : CodesOf → Need
needs_codes (Codes.Owner user) = On A.ReadShares (Ob.User user)
needs_codes (Codes.Server server) = On A.ReadShares (Ob.Server server)

-- access to the server or the service whose client asks. An id that names neither is no client's
abbrev pub needs_client : Option ClientOwner → Need
needs_client (Some (Whose.Server server)) = On A.AccessServers (Ob.Server server)
needs_client (Some (Whose.Service service)) = On A.AccessServices (Ob.Service service)
needs_client None = On A.AccessServers Ob.Hub

-- Whose client this id is, if there is an id and it is one
abbrev pub whose_client : (id : Option (List ℕ)) → Option ClientOwner
whose_client None = None
whose_client (Some id) = client_owner id

-- What the call needs of its token: that it is good, an action held on some object, or an action on one object
abbrev pub needs : Call → Need
needs GetVersion = GoodToken
needs GetInfo = On A.ReadHub Ob.Hub
needs (GetIdentity server) = GoodToken
needs (GetUsers page) = Held A.ListUsers
needs (PostUsers names admin) = On A.AdminUsers Ob.Hub
needs (GetUser user) = On A.ReadUsersName (Ob.User user)
needs (PostUser user) = On A.AdminUsers (Ob.User user)
needs (PatchUser user admin) = On A.AdminUsers Ob.Hub
needs (DeleteUser user) = On A.DeleteUsers (Ob.User user)
needs (PostActivity user last_activity servers) = On A.UsersActivity (Ob.User user)
needs (PostServer server) = On A.Servers (Ob.Server server)
needs (DeleteServer server remove) = On A.DeleteServers (Ob.Server server)
needs (GetTokens user) = On A.ReadTokens (Ob.User user)
needs (PostToken ask) = On A.Tokens (Ob.User ask.owner)
needs (GetToken user id) = On A.ReadTokens (Ob.User user)
needs (DeleteToken user id) = On A.Tokens (Ob.User user)
needs (GetShares whose page) = needs_shares whose
needs (AcceptCode user code) = On A.UsersShares (Ob.User user)
needs (PostShare server to scopes) = On A.Shares (Ob.Server server)
needs (PatchShare server to scopes) = On A.Shares (Ob.Server server)
needs (DeleteShares server) = On A.Shares (Ob.Server server)
needs (GetCodes whose page) = needs_codes whose
needs (PostCode server scopes expires_in) = On A.Shares (Ob.Server server)
needs (DeleteCodes server id) = On A.Shares (Ob.Server server)
needs (GetGroups page) = Held A.ListGroups
needs (GetGroup group) = On A.ReadGroupsName (Ob.Group group)
needs (PostGroup group users) = On A.AdminGroups (Ob.Group group)
needs (DeleteGroup group) = On A.DeleteGroups (Ob.Group group)
needs (JoinGroup group users) = On A.Groups (Ob.Group group)
needs (LeaveGroup group users) = On A.Groups (Ob.Group group)
needs (GetServices page) = Held A.ListServices
needs (GetService service) = On A.ReadServicesName (Ob.Service service)
needs (PostService service) = On A.AdminServices (Ob.Service service)
needs (DeleteService service) = On A.AdminServices (Ob.Service service)
needs (GetRoles page) = On A.AdminRoles Ob.Hub
needs (GetRole role) = On A.AdminRoles Ob.Hub
needs (PutRole role scopes users groups services) = On A.AdminRoles Ob.Hub
needs (DeleteRole role) = On A.AdminRoles Ob.Hub
needs (GetAuthorize ask) = needs_client (whose_client ask.client_id)
needs (PostTrade ask) = GoodToken
needs GetProxy = On A.Proxy Ob.Hub
needs PostProxy = On A.Proxy Ob.Hub

-- the version needs no token, and a trade is asked by a client, who shows its secret
abbrev pub needs_token : Call → Bool
needs_token GetVersion = false
needs_token (PostTrade ask) = false
needs_token _ = true

-- a token is kept under the id, and it is the user's
abbrev pub is_token_of : (user : List ℕ) → Option Token → Bool
is_token_of user None = false
is_token_of user (Some token) = same_owner token.owner (Own.User user)

-- The user has a token under this id
abbrev pub has_token : State → (user : List ℕ) → (id : ℕ) → Bool
has_token t user id = is_token_of user (get t.tokens id)

-- whose shares, and whose codes, are asked for
abbrev pub has_sharer : State → SharesOf → Bool
has_sharer t (Shares.Recipient user) = contains_key t.users user
has_sharer t (Shares.Owner user) = contains_key t.users user
has_sharer t (Shares.Server server) = has_server t server

-- Whose codes are asked for is there
abbrev pub has_offerer : State → CodesOf → Bool
has_offerer t (Codes.Owner user) = contains_key t.users user
has_offerer t (Codes.Server server) = has_server t server

-- the code that is named, if one is, is of the server
abbrev pub is_code_at : ServerKey → Option ShareCode → Bool
is_code_at server None = false
is_code_at server (Some code) = is_code_of (Codes.Server server) code

-- The code that is named, if one is, is there, and of the server
abbrev pub has_code : State → ServerKey → (id : Option ℕ) → Bool
has_code t server None = true
has_code t server (Some id) = is_code_at server (get t.codes id)

-- what the call speaks of is there. A fixed role is refused before it is found not to be there
abbrev pub is_there : State → Call → Bool
is_there t (GetUser user) = contains_key t.users user
is_there t (PatchUser user admin) = contains_key t.users user
is_there t (DeleteUser user) = contains_key t.users user
is_there t (PostActivity user last_activity servers) = contains_key t.users user
is_there t (PostServer server) = contains_key t.users server.user
is_there t (DeleteServer server remove) = has_server t server
is_there t (GetTokens user) = contains_key t.users user
is_there t (PostToken ask) = contains_key t.users ask.owner
is_there t (GetToken user id) = has_token t user id
is_there t (DeleteToken user id) = has_token t user id
is_there t (GetShares whose page) = has_sharer t whose
is_there t (AcceptCode user code) = contains_key t.users user
is_there t (PostShare server to scopes) = has_server t server
is_there t (PatchShare server to scopes) = has_server t server
is_there t (DeleteShares server) = has_server t server
is_there t (GetCodes whose page) = has_offerer t whose
is_there t (PostCode server scopes expires_in) = has_server t server
is_there t (DeleteCodes server id) = has_server t server && has_code t server id
is_there t (GetGroup group) = contains_key t.groups group
is_there t (DeleteGroup group) = contains_key t.groups group
is_there t (JoinGroup group users) = contains_key t.groups group
is_there t (LeaveGroup group users) = contains_key t.groups group
is_there t (GetService service) = contains_key t.services service
is_there t (DeleteService service) = contains_key t.services service
is_there t (GetRole role) = contains_key t.roles role
is_there t (DeleteRole role) = is_fixed_role role || contains_key t.roles role
is_there t _ = true
