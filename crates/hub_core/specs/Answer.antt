-- The answer to an asked call: the first refusal of the frame, else what the call's own definition gives.
use Rattle.std.specs.Prelude.{ℕ, Bool, false, not, nat_lt, List, [], ◌∷◌, Option, Some, None, if◌then◌else◌}
use Rattle.hub_kit.specs.Hashes.{hash_text}
use Rattle.hub_rows.specs.declared.records.Token.{Token}
use Rattle.scope_meet.specs.declared.inside.Inside.{Inside}
use Rattle.hub_tables.specs.Ends.{is_over}
use Rattle.hub_tables.specs.Hashes.{row_with}
use Rattle.hub_tables.specs.State.{State}
use Rattle.hub_view.specs.Fields.{Rights}
use Rattle.hub_machine.specs.State.{Hub}
use Rattle.hub_machine.specs.Trails.{in_trail}
use Rattle.hub_machine.specs.Replies.{Answer, refuses, gives, rules, if_so}
use Rattle.hub_core.specs.Needs.{needs, needs_token, is_there}
use Rattle.hub_calls.specs.UserCalls.{get_version, get_info, get_identity, get_users, post_users, get_user, post_user, patch_user}
use Rattle.hub_calls.specs.UserCalls.{delete_user}
use Rattle.hub_calls.specs.ServerCalls.{post_activity}
use Rattle.hub_calls.specs.Starts.{post_server}
use Rattle.hub_calls.specs.Stops.{delete_server}
use Rattle.access_calls.specs.TokenCalls.{get_tokens, post_token, get_token, delete_token}
use Rattle.access_calls.specs.ShareCalls.{get_shares, post_share, patch_share, delete_shares}
use Rattle.access_calls.specs.CodeCalls.{accept_code, get_codes, post_code, delete_codes}
use Rattle.access_calls.specs.GrantCalls.{client_refusal, get_authorize, post_trade}
use Rattle.hub_calls.specs.GroupCalls.{get_groups, get_group, post_group, delete_group, join_group, leave_group}
use Rattle.hub_calls.specs.ServiceCalls.{get_services, get_service, post_service, delete_service}
use Rattle.hub_calls.specs.ProxyCalls.{leave}
use Rattle.hub_calls.specs.RoleCalls.{get_roles, get_role, role_of, put_role, delete_role}
use Rattle.hub_core.specs.declared.need.Need.{Need}
use Rattle.hub_core.specs.declared.need.Need.TheVariants.{GoodToken, Held, On}
use Rattle.hub_machine.specs.declared.refusal.Refusal.{Refusal}
use Rattle.hub_machine.specs.declared.refusal.Refusal.TheVariants.{SeenPast, NoValidToken, Needs, NotFound}
use Rattle.hub_machine.specs.declared.call.Asked.{Asked}
use Rattle.hub_machine.specs.declared.call.Call.{Call}
use Rattle.hub_machine.specs.declared.call.Call.TheVariants.{GetVersion, GetInfo, GetIdentity, GetUsers, PostUsers, GetUser, PostUser}
use Rattle.hub_machine.specs.declared.call.Call.TheVariants.{PatchUser, DeleteUser, PostActivity, PostServer, DeleteServer, GetTokens}
use Rattle.hub_machine.specs.declared.call.Call.TheVariants.{PostToken, GetToken, DeleteToken, GetShares, AcceptCode, PostShare, PatchShare}
use Rattle.hub_machine.specs.declared.call.Call.TheVariants.{DeleteShares, GetCodes, PostCode, DeleteCodes, GetGroups, GetGroup, PostGroup}
use Rattle.hub_machine.specs.declared.call.Call.TheVariants.{DeleteGroup, JoinGroup, LeaveGroup, GetServices, GetService, PostService}
use Rattle.hub_machine.specs.declared.call.Call.TheVariants.{DeleteService, GetRoles, GetRole, PutRole, DeleteRole, GetAuthorize, PostTrade}
use Rattle.hub_machine.specs.declared.call.Call.TheVariants.{GetProxy, PostProxy}

-- what is decided over all scopes and objects, and not by looking into the tables (see Judged)
pub record Judgement : Type 0 where
  -- what the caller may do
  pub may : Rights
  -- whether the caller may do what the call needs on some object at all
  pub is_held : Bool
  -- whether the owner of a token that the call asks for may do all that it asks
  pub inside : Inside

-- The rules of the call in their order, and its Ok: one definition for each call, in the state s, for a caller with the token k who may do
-- `may`, at the moment `now`. `inside` is of a token that is asked for, and `draw` what was drawn for a call that draws
abbrev pub row : Hub → Rights → Inside → (now : ℕ) → (draw : Option (List ℕ)) → Token → Call → Answer
row s may inside now draw k GetVersion = get_version
row s may inside now draw k GetInfo = get_info s
row s may inside now draw k (GetIdentity server) = get_identity s may k server
row s may inside now draw k (GetUsers page) = get_users s may page
row s may inside now draw k (PostUsers names admin) = post_users s may now names admin
row s may inside now draw k (GetUser user) = get_user s may user
row s may inside now draw k (PostUser user) = post_user s may now user
row s may inside now draw k (PatchUser user admin) = patch_user s may user admin
row s may inside now draw k (DeleteUser user) = delete_user s user
row s may inside now draw k (PostActivity user last_activity servers) = post_activity s now user last_activity servers
row s may inside now draw k (PostServer server) = post_server s now draw server
row s may inside now draw k (DeleteServer server remove) = delete_server s server remove
row s may inside now draw k (GetTokens user) = get_tokens s user
row s may inside now draw k (PostToken ask) = post_token s now draw inside ask
row s may inside now draw k (GetToken user id) = get_token s id
row s may inside now draw k (DeleteToken user id) = delete_token s id
row s may inside now draw k (GetShares whose page) = get_shares s whose page
row s may inside now draw k (AcceptCode user code) = accept_code s now user code
row s may inside now draw k (PostShare server to scopes) = post_share s now server to scopes
row s may inside now draw k (PatchShare server to scopes) = patch_share s server to scopes
row s may inside now draw k (DeleteShares server) = delete_shares s server
row s may inside now draw k (GetCodes whose page) = get_codes s whose page
row s may inside now draw k (PostCode server scopes expires_in) = post_code s now draw server scopes expires_in
row s may inside now draw k (DeleteCodes server id) = delete_codes s server id
row s may inside now draw k (GetGroups page) = get_groups s may page
row s may inside now draw k (GetGroup group) = get_group s may group
row s may inside now draw k (PostGroup group users) = post_group s may group users
row s may inside now draw k (DeleteGroup group) = delete_group s group
row s may inside now draw k (JoinGroup group users) = join_group s may group users
row s may inside now draw k (LeaveGroup group users) = leave_group s may group users
row s may inside now draw k (GetServices page) = get_services s may page
row s may inside now draw k (GetService service) = get_service s may service
row s may inside now draw k (PostService service) = post_service s may service
row s may inside now draw k (DeleteService service) = delete_service s service
row s may inside now draw k (GetRoles page) = get_roles s page
row s may inside now draw k (GetRole role) = get_role s role
row s may inside now draw k (PutRole role scopes users groups services) = put_role s (role_of role scopes users groups services)
row s may inside now draw k (DeleteRole role) = delete_role s role
row s may inside now draw k (GetAuthorize ask) = get_authorize s now draw k.owner ask
row s may inside now draw k (PostTrade ask) = post_trade s now draw ask
row s may inside now draw k GetProxy = leave
row s may inside now draw k PostProxy = leave

-- ---- the frame

-- The refusals of a call by what it needs, in their order: the action isn't held on any object, or isn't allowed on the one that the call
-- names
abbrev pub action_rules : Judgement → Need → List (Option Refusal)
action_rules j GoodToken = []
action_rules j (Held a) = if_so (not j.is_held) (Needs a) ∷ []
action_rules j (On a x) = if_so (not j.is_held) (Needs a) ∷ if_so (not (j.may a x)) NotFound ∷ []

-- an authorization is refused before its rights are, where no client asks for it
abbrev pub if_no_client : State → Call → Option Refusal
if_no_client t (GetAuthorize ask) = client_refusal t ask
if_no_client t call = None

-- The answer once the caller may make the call: what it speaks of has to be there, and then the call's own definition counts
abbrev pub if_there : Hub → Rights → Inside → ℕ → Option (List ℕ) → Token → Call → Answer
if_there s may inside now draw k call = rules (if_so (not (is_there s.tables call)) NotFound ∷ []) (row s may inside now draw k call)

-- The answer to a call that needs a token, by the caller's token, if it is a good one: no client, then the rights, then what the call
-- speaks of
abbrev pub by_token : Hub → Judgement → ℕ → Option (List ℕ) → Call → Option Token → Answer
by_token s j now draw call None = refuses NoValidToken
by_token s j now draw call (Some k) =
    rules (if_no_client s.tables call ∷ action_rules j (needs call)) (if_there s j.may j.inside now draw k call)

-- a trade and the version need no token
abbrev pub by_nobody : Hub → (now : ℕ) → (draw : Option (List ℕ)) → Call → Answer
by_nobody s now draw (PostTrade ask) = post_trade s now draw ask
by_nobody s now draw call = get_version

-- The answer to a call whose revision the history has, before it is tested whether there is room for its change; by the caller's token, if
-- it brought a good one
abbrev pub by_call : Hub → Judgement → ℕ → Option (List ℕ) → Option Token → Call → Answer
by_call s j now draw caller call = if needs_token call then by_token s j now draw call caller else by_nobody s now draw call

-- ---- whose token it is

-- from its end on a token is no longer good
abbrev pub if_good : ℕ → Option Token → Option Token
if_good now None = None
if_good now (Some k) = if is_over now k.expires_at then None else Some k

-- the kept token that has the hash of the text, where it is good
abbrev pub good_token : State → ℕ → Option (List ℕ) → Option Token
good_token t now None = None
good_token t now (Some text) = if_good now (row_with (λ k. k.hash) (hash_text text) t.tokens)

-- The token of the caller, if what it brought is a good one
abbrev pub caller : Hub → ℕ → Asked → Option Token
caller s now asked = good_token s.tables now asked.token

-- ---- the whole

-- The caller has seen a revision past the length of the history
abbrev pub is_past : ℕ → Option ℕ → Bool
is_past length None = false
is_past length (Some seen) = nat_lt length seen

-- The revision that a call names, or 0 where it names none
abbrev pub named : Option ℕ → ℕ
named None = 0
named (Some n) = n

-- The answer in the state s to a call asked at the moment `now`, with what was drawn for it, where the caller's rights come to the
-- judgement j
abbrev pub answer : Hub → ℕ → Option (List ℕ) → Judgement → Asked → Answer
answer s now draw j asked =
    rules (if_so (is_past s.length asked.seen) (SeenPast (named asked.seen) s.length) ∷ [])
    (in_trail s (by_call s j now draw (caller s now asked) asked.call))
