-- The call that a request asks: its path, then the method, and then the call's own reading.
use Rattle.std.specs.Prelude.{ℕ, List, bytes_eq, codes, if◌then◌else◌, Option, Some, None, Result, Ok, Err}
use Rattle.http_wire.specs.declared.request.Request.{Request}
use Rattle.hub_machine.specs.declared.call.Asked.{Asked}
use Rattle.hub_machine.specs.declared.call.Call.{Call}
use Rattle.hub_machine.specs.declared.call.Call.TheVariants.{GetVersion, GetInfo, GetProxy, PostProxy}
use Rattle.request_parts.specs.Steps.{◌>>=◌}
use Rattle.hub_api.specs.Readings as calls
use Rattle.hub_paths.specs.Paths.{path_of}
use Rattle.hub_api.specs.declared.method.Method.{Method}
use Rattle.hub_api.specs.declared.method.Method.TheVariants.{Get, Post, Put, Patch, Delete, Other}
use Rattle.hub_paths.specs.declared.paths.Path.{Path}
use Rattle.hub_paths.specs.declared.paths.Path.TheVariants.{Bare, Version, Info, Identity, Users, User, Activity, DefaultServer}
use Rattle.hub_paths.specs.declared.paths.Path.TheVariants.{NamedServer, Tokens, Token, Shared, GivenShares, DefaultShares, ServerShares}
use Rattle.hub_paths.specs.declared.paths.Path.TheVariants.{GivenCodes, DefaultCodes, ServerCodes, Groups, Group, Members, Services}
use Rattle.hub_paths.specs.declared.paths.Path.TheVariants.{Service, Roles, Role, Authorize, Trade, Proxy}
use Rattle.hub_api.specs.declared.refusal.ApiRefusal.{ApiRefusal}
use Rattle.hub_api.specs.declared.refusal.ApiRefusal.TheVariants.{NoPath, NoMethod}

unfoldable pub method_of : List ℕ → Method
method_of text =
    if bytes_eq text (codes "GET") then Get
    else (if bytes_eq text (codes "POST") then Post
    else (if bytes_eq text (codes "PUT") then Put
    else (if bytes_eq text (codes "PATCH") then Patch
    else (if bytes_eq text (codes "DELETE") then Delete else Other))))

-- ---- the paths with their methods

abbrev pub version : Method → Result Call ApiRefusal
version Get = Ok GetVersion
version method = Err NoMethod

abbrev pub info : Method → Result Call ApiRefusal
info Get = Ok GetInfo
info method = Err NoMethod

abbrev pub identity : Method → Request → Result Call ApiRefusal
identity Get q = calls.get_identity q
identity method q = Err NoMethod

abbrev pub users : Method → Request → Result Call ApiRefusal
users Get q = calls.get_users q
users Post q = calls.post_users q
users method q = Err NoMethod

abbrev pub user : Method → Request → Result Call ApiRefusal
user Get q = calls.get_user q
user Post q = calls.post_user q
user Patch q = calls.patch_user q
user Delete q = calls.delete_user q
user method q = Err NoMethod

abbrev pub activity : Method → Request → Result Call ApiRefusal
activity Post q = calls.post_activity q
activity method q = Err NoMethod

abbrev pub default_server : Method → Request → Result Call ApiRefusal
default_server Post q = calls.post_default_server q
default_server Delete q = calls.delete_default_server q
default_server method q = Err NoMethod

abbrev pub named_server : Method → Request → Result Call ApiRefusal
named_server Post q = calls.post_named_server q
named_server Delete q = calls.delete_named_server q
named_server method q = Err NoMethod

abbrev pub tokens : Method → Request → Result Call ApiRefusal
tokens Get q = calls.get_tokens q
tokens Post q = calls.post_token q
tokens method q = Err NoMethod

abbrev pub token : Method → Request → Result Call ApiRefusal
token Get q = calls.get_token q
token Delete q = calls.delete_token q
token method q = Err NoMethod

abbrev pub shared : Method → Request → Result Call ApiRefusal
shared Get q = calls.get_shared q
shared Post q = calls.accept_code q
shared method q = Err NoMethod

abbrev pub given_shares : Method → Request → Result Call ApiRefusal
given_shares Get q = calls.get_given_shares q
given_shares method q = Err NoMethod

abbrev pub server_shares : Method → Request → Result Call ApiRefusal
server_shares Get q = calls.get_server_shares q
server_shares Post q = calls.post_share q
server_shares Patch q = calls.patch_share q
server_shares Delete q = calls.delete_shares q
server_shares method q = Err NoMethod

abbrev pub given_codes : Method → Request → Result Call ApiRefusal
given_codes Get q = calls.get_given_codes q
given_codes method q = Err NoMethod

abbrev pub server_codes : Method → Request → Result Call ApiRefusal
server_codes Get q = calls.get_server_codes q
server_codes Post q = calls.post_code q
server_codes Delete q = calls.delete_codes q
server_codes method q = Err NoMethod

abbrev pub groups : Method → Request → Result Call ApiRefusal
groups Get q = calls.get_groups q
groups method q = Err NoMethod

abbrev pub group : Method → Request → Result Call ApiRefusal
group Get q = calls.get_group q
group Post q = calls.post_group q
group Delete q = calls.delete_group q
group method q = Err NoMethod

abbrev pub members : Method → Request → Result Call ApiRefusal
members Post q = calls.join_group q
members Delete q = calls.leave_group q
members method q = Err NoMethod

abbrev pub services : Method → Request → Result Call ApiRefusal
services Get q = calls.get_services q
services method q = Err NoMethod

abbrev pub service : Method → Request → Result Call ApiRefusal
service Get q = calls.get_service q
service Post q = calls.post_service q
service Delete q = calls.delete_service q
service method q = Err NoMethod

abbrev pub roles : Method → Request → Result Call ApiRefusal
roles Get q = calls.get_roles q
roles method q = Err NoMethod

abbrev pub role : Method → Request → Result Call ApiRefusal
role Get q = calls.get_role q
role Put q = calls.put_role q
role Delete q = calls.delete_role q
role method q = Err NoMethod

abbrev pub authorize : Method → Request → Result Call ApiRefusal
authorize Get q = calls.get_authorize q
authorize method q = Err NoMethod

abbrev pub trade : Method → Request → Result Call ApiRefusal
trade Post q = calls.post_trade q
trade method q = Err NoMethod

abbrev pub proxy : Method → Result Call ApiRefusal
proxy Get = Ok GetProxy
proxy Post = Ok PostProxy
proxy method = Err NoMethod

-- /hub/api and /hub/api/ are the same, and behind a last slash stands the name of the default server
abbrev pub at_path : Path → Method → Request → Result Call ApiRefusal
at_path Bare method q = version method
at_path Version method q = version method
at_path Info method q = info method
at_path Identity method q = identity method q
at_path Users method q = users method q
at_path User method q = user method q
at_path Activity method q = activity method q
at_path DefaultServer method q = default_server method q
at_path NamedServer method q = named_server method q
at_path Tokens method q = tokens method q
at_path Token method q = token method q
at_path Shared method q = shared method q
at_path GivenShares method q = given_shares method q
at_path DefaultShares method q = server_shares method q
at_path ServerShares method q = server_shares method q
at_path GivenCodes method q = given_codes method q
at_path DefaultCodes method q = server_codes method q
at_path ServerCodes method q = server_codes method q
at_path Groups method q = groups method q
at_path Group method q = group method q
at_path Members method q = members method q
at_path Services method q = services method q
at_path Service method q = service method q
at_path Roles method q = roles method q
at_path Role method q = role method q
at_path Authorize method q = authorize method q
at_path Trade method q = trade method q
at_path Proxy method q = proxy method

-- ---- the request

abbrev pub call_of : Option Path → Request → Result Call ApiRefusal
call_of None q = Err NoPath
call_of (Some path) q = at_path path (method_of q.method) q

-- the call with the token and the revision that the request brings
abbrev pub asked : Request → Call → Asked
asked q call = record { token = q.token; seen = q.seen; call = call }

-- what a request asks, or the first refusal: of its path, its method, its names, its query, its body, its scopes
unfoldable pub call_read : Request → Result Asked ApiRefusal
call_read q = do
  call ← call_of (path_of q.path) q
  Ok (asked q call)
