-- No row that an answer changes is one that a test finds, where the test finds none of the kinds of rows that answers change, unless the call issues a token or a share code.
use Rattle.std.proofs.Common.{◌≡◌, ℕ, Bool, true, false, ◌||◌, ◌&&◌, not, cond, codes, List, [], ◌∷◌, ◌++◌, map, filter, length, Option, refl, sym, subst}
use Rattle.std.specs.Prelude.{Some, None, Result, Ok, Err}
use Rattle.std.specs.List.{flat_map, list_any}
use Rattle.std.specs.FinMap.{get, contains_key, len, values}
use Rattle.hub_kit.specs.KeyOrder.{name_cmp}
use Rattle.hub_kit.specs.declared.names.ServerKey.{ServerKey}
use Rattle.keyed_rows.specs.Sorted.{in_order, with_keys, without_keys}
use Rattle.hub_rows.specs.declared.keys.Recipient.{Recipient}
use Rattle.hub_rows.specs.declared.keys.ShareKey.{ShareKey}
use Rattle.hub_rows.specs.declared.changes.RowChange.{RowChange}
use Rattle.hub_rows.specs.declared.changes.RowChange.TheVariants.{Put, Remove}
use Rattle.hub_rows.specs.declared.rows.Row.TheVariants as Row
use Rattle.hub_rows.specs.declared.rows.RowKey.TheVariants as RowKey
use Rattle.hub_rows.specs.declared.records.User.{User}
use Rattle.hub_rows.specs.declared.records.Group.{Group}
use Rattle.hub_rows.specs.declared.records.Service.{Service}
use Rattle.hub_rows.specs.declared.records.Role.{Role}
use Rattle.hub_rows.specs.declared.records.Token.{Token}
use Rattle.hub_rows.specs.declared.records.ServerRow.{ServerRow}
use Rattle.hub_rows.specs.declared.records.Share.{Share}
use Rattle.hub_rows.specs.declared.records.ShareCode.{ShareCode}
use Rattle.hub_rows.specs.declared.records.OAuthClient.{OAuthClient}
use Rattle.hub_rows.specs.declared.records.OAuthCode.{OAuthCode}
use Rattle.hub_kit.specs.Hashes.{draw_text}
use Rattle.hub_tables.specs.Lookups.{is_default}
use Rattle.hub_tables.specs.State.{State}
use Rattle.server_life.specs.LifeTable.{life_after}
use Rattle.server_life.specs.declared.life.LifeEvent.TheVariants.{Begin, AskStop}
use Rattle.server_life.specs.declared.life.LifeRefusal.TheVariants.{Running, PendingSpawn, PendingStop, OldGeneration, NotNow}
use Rattle.server_life.specs.declared.life.Todo.{Todo}
use Rattle.server_life.specs.declared.life.Todo.TheVariants.{Nothing, Start, AddRoute, DeleteRoute, StopProgram, Poll}
use Rattle.admin_rules.specs.declared.refusals.RuleRefusal.{RuleRefusal}
use Rattle.admin_rules.specs.declared.refusals.RuleRefusal.TheVariants.{Exists, LiveServers, FixedRole}
use Rattle.admin_rules.specs.Rules as rules
use Rattle.admin_rules.specs.Users as users
use Rattle.admin_rules.specs.Users.{new_user}
use Rattle.admin_rules.specs.Groups as groups
use Rattle.admin_rules.specs.Servers as servers
use Rattle.admin_rules.specs.Services as services
use Rattle.admin_rules.specs.Roles as roles
use Rattle.admin_rules.specs.Purges.{changes_of, has_member, without_member, is_held_by_user, without_user, is_token_of_user, is_server_of_user, is_share_of_user, is_code_of_user, is_called, clients_of_user, is_grant_of_user, user_rows, is_held_by_group, without_group, is_share_to_group, group_rows, is_held_by_service, without_service, is_token_of_service, is_client, client_of_service, service_rows, is_share_of_server, is_code_of_server, server_rows}
use Rattle.oauth_flow.specs.Clients.{client_of}
use Rattle.oauth_flow.specs.Codes.{expired_codes, made_code}
use Rattle.oauth_flow.specs.declared.asks.AuthorizeAsk.{AuthorizeAsk}
use Rattle.oauth_flow.specs.declared.asks.OAuthError.{OAuthError}
use Rattle.scope_filters.specs.declared.holder.Owner.{Owner}
use Rattle.scope_filters.specs.declared.holder.Owner.TheVariants as Own
use Rattle.shares.specs.Codes as rules_on_codes
use Rattle.shares.specs.Granting.{grant_share, revoke_share}
use Rattle.shares.specs.Lists.{shares_of}
use Rattle.shares.specs.declared.allowed.ShareError.{ShareError}
use Rattle.shares.specs.declared.lists.SharesOf.TheVariants.{Server}
use Rattle.scope_filters.specs.declared.scope.RawScope.{RawScope}
use Rattle.scope_meet.specs.declared.inside.Inside.{Inside}
use Rattle.hub_view.specs.Fields.{Rights}
use Rattle.hub_view.specs.Records.{share_body}
use Rattle.hub_machine.specs.State.{Hub, has_live_server, free_target, lease_of, life_of, next_generation}
use Rattle.hub_lives.specs.declared.lives.Leased.{Leased}
use Rattle.hub_machine.specs.Replies.{Answer, refuses, refuses_with, gives, changes, works, Good, good, rows_then, or_refusal, first_refusal, if_so}
use Rattle.hub_machine.specs.Trails.{in_trail}
use Rattle.hub_machine.specs.Apply.{LifeStep, is_past_trail}
use Rattle.access_calls.specs.CodeCalls as on_codes
use Rattle.access_calls.specs.GrantCalls as on_grants
use Rattle.access_calls.specs.ShareCalls as on_shares
use Rattle.hub_calls.specs.Calling.{after_rows, by_rules, done}
use Rattle.hub_calls.specs.Facts.{user_at}
use Rattle.hub_calls.specs.RoleCalls.{role_of}
use Rattle.hub_calls.specs.Starts.{may_start, on_begin, on_target, post_server, start_rules}
use Rattle.hub_calls.specs.Stops.{at_rest, goes_on, on_lease, on_stop}
use Rattle.hub_core.specs.Needs.{needs, needs_token, is_there}
use Rattle.hub_core.specs.Answer.{Judgement, row, if_there, if_no_client, by_nobody, by_token, by_call, action_rules, caller, is_past, named}
use Rattle.hub_core.specs.History.{Answers}
use Rattle.hub_machine.specs.declared.change.Change.{Change}
use Rattle.hub_machine.specs.declared.change.Change.TheVariants.{Rows}
use Rattle.hub_machine.specs.declared.refusal.Refusal.{Refusal}
use Rattle.hub_machine.specs.declared.refusal.Refusal.TheVariants.{SeenPast, NotFound, TrailFull, Full as TooMany, Rule as NotSo}
use Rattle.hub_machine.specs.declared.call.Asked.{Asked}
use Rattle.hub_machine.specs.declared.call.Call.{Call}
use Rattle.hub_machine.specs.declared.call.Call.TheVariants.{PostUsers, PostUser, PatchUser, DeleteUser, PostActivity, PostServer, DeleteServer, PostToken, DeleteToken, AcceptCode, PostShare, PatchShare, DeleteShares, PostCode, DeleteCodes, PostGroup, DeleteGroup, JoinGroup, LeaveGroup, PostService, DeleteService, PutRole, DeleteRole, GetAuthorize, PostTrade}

-- the call issues a token or a share code
abbrev pub issues : Call → Bool
issues (PostToken ask) = true
issues (PostCode server scopes expires_in) = true
issues (PostTrade ask) = true
issues call = false

not_old : true ≡ false → ⊥
not_old e = cc

-- the test finds none of the kinds of rows that answers change
pub record IsCalm (test : RowChange → Bool) : Type 0 where
  pub put_user : (x : User) → test (Put (Row.User x)) ≡ false
  pub remove_user : (x : List ℕ) → test (Remove (RowKey.User x)) ≡ false
  pub put_group : (x : Group) → test (Put (Row.Group x)) ≡ false
  pub remove_group : (x : List ℕ) → test (Remove (RowKey.Group x)) ≡ false
  pub put_service : (x : Service) → test (Put (Row.Service x)) ≡ false
  pub remove_service : (x : List ℕ) → test (Remove (RowKey.Service x)) ≡ false
  pub put_role : (x : Role) → test (Put (Row.Role x)) ≡ false
  pub remove_role : (x : List ℕ) → test (Remove (RowKey.Role x)) ≡ false
  pub remove_token : (x : ℕ) → test (Remove (RowKey.Token x)) ≡ false
  pub put_server : (x : ServerRow) → test (Put (Row.ServerRow x)) ≡ false
  pub put_share : (x : Share) → test (Put (Row.Share x)) ≡ false
  pub remove_server : (x : ServerKey) → test (Remove (RowKey.ServerRow x)) ≡ false
  pub remove_share : (x : ShareKey) → test (Remove (RowKey.Share x)) ≡ false
  pub remove_code : (x : ℕ) → test (Remove (RowKey.ShareCode x)) ≡ false
  pub remove_client : (x : List ℕ) → test (Remove (RowKey.OAuthClient x)) ≡ false
  pub put_grant : (x : OAuthCode) → test (Put (Row.OAuthCode x)) ≡ false
  pub remove_grant : (x : List ℕ) → test (Remove (RowKey.OAuthCode x)) ≡ false

-- it finds no row of the answer's change
abbrev pub CalmIn : (RowChange → Bool) → Change → Type 0
CalmIn test (Rows rows) = list_any test rows ≡ false
CalmIn test _ = Unit {0}

abbrev pub Calm : (RowChange → Bool) → Answer → Type 0
Calm test (refuses_with c r) = CalmIn test c
Calm test (changes c g) = CalmIn test c
Calm test (works c w) = CalmIn test c
Calm test _ = Unit {0}

module _ (test : RowChange → Bool) (calm : IsCalm test) where
  abbrev AreCalm : List RowChange → Type 0
  AreCalm rows = list_any test rows ≡ false

  both : (a b : Bool) → a ≡ false → b ≡ false → (a || b) ≡ false
  both true b h k = h
  both false b h k = k

  one : (r : RowChange) → test r ≡ false → AreCalm (r ∷ [])
  one r h = both (test r) false h refl

  calm-append : (xs ys : List RowChange) → AreCalm xs → AreCalm ys → AreCalm (xs ++ ys)
  calm-append [] ys h k = k
  calm-append (x ∷ xs) ys h k = split (test x) (list_any test xs) h (calm-append xs ys)
    where
      split : (a b : Bool) → (a || b) ≡ false → (b ≡ false → AreCalm ys → AreCalm (xs ++ ys)) → (a || list_any test (xs ++ ys)) ≡ false
      split true b e f = e
      split false b e f = f e k

  calm-map : {X : Type 0} (change : X → RowChange) → ((x : X) → test (change x) ≡ false) → (rows : List X) → AreCalm (map change rows)
  calm-map change h [] = refl
  calm-map change h (x ∷ xs) = both (test (change x)) (list_any test (map change xs)) (h x) (calm-map change h xs)

  calm_users : (admin : Bool) (now : ℕ) (names : List (List ℕ)) → AreCalm (map (new_user admin now) names)
  calm_users admin now names = calm-map (new_user admin now) (λ _. calm.put_user _) names

  changed : {X : Type 0} (takes : X → Bool) (change : X → RowChange) → ((x : X) → test (change x) ≡ false) → (rows : List X) → AreCalm (changes_of takes change rows)
  changed takes change h rows = calm-map change h (filter takes rows)

  three : (a b c : List RowChange) → AreCalm a → AreCalm b → AreCalm c → AreCalm (a ++ b ++ c)
  three a b c pa pb pc = calm-append (a ++ b) c (calm-append a b pa pb) pc

  five : (a b c d e : List RowChange) → AreCalm a → AreCalm b → AreCalm c → AreCalm d → AreCalm e → AreCalm (a ++ b ++ c ++ d ++ e)
  five a b c d e pa pb pc pd pe = calm-append (a ++ b ++ c ++ d) e (calm-append (a ++ b ++ c) d (three a b c pa pb pc) pd) pe

  calm_user : (s : State) (user : List ℕ) → AreCalm (user_rows s user)
  calm_user s user =
      let groups : List RowChange = changes_of (has_member user) (without_member user) (values s.groups) in
      let roles : List RowChange = changes_of (is_held_by_user user) (without_user user) (values s.roles) in
      let row : List RowChange = Remove (RowKey.User user) ∷ [] in
      let of_tokens : Token → RowChange = λ token. Remove (RowKey.Token token.id) in
      let of_servers : ServerRow → RowChange = λ row. Remove (RowKey.ServerRow row.key) in
      let of_shares : Share → RowChange = λ share. Remove (RowKey.Share share.key) in
      let of_codes : ShareCode → RowChange = λ code. Remove (RowKey.ShareCode code.id) in
      let of_clients : OAuthClient → RowChange = λ client. Remove (RowKey.OAuthClient client.id) in
      let of_grants : OAuthCode → RowChange = λ code. Remove (RowKey.OAuthCode code.hash) in
      let tokens : List RowChange = changes_of (is_token_of_user user) of_tokens (values s.tokens) in
      let servers : List RowChange = changes_of (is_server_of_user user) of_servers (values s.servers) in
      let first : List RowChange = groups ++ roles ++ row ++ tokens ++ servers in
      let shares : List RowChange = changes_of (is_share_of_user user) of_shares (values s.shares) in
      let codes : List RowChange = changes_of (is_code_of_user user) of_codes (values s.codes) in
      let clients : List RowChange = changes_of (is_called (clients_of_user user)) of_clients (values s.clients) in
      let grants : List RowChange = changes_of (is_grant_of_user user) of_grants (values s.grant_codes) in
      five first shares codes clients grants
      (five groups roles row tokens servers
      (changed (has_member user) (without_member user) (λ _. calm.put_group _) (values s.groups))
      (changed (is_held_by_user user) (without_user user) (λ _. calm.put_role _) (values s.roles))
      (one (Remove (RowKey.User user)) (calm.remove_user user))
      (changed (is_token_of_user user) of_tokens (λ _. calm.remove_token _) (values s.tokens))
      (changed (is_server_of_user user) of_servers (λ _. calm.remove_server _) (values s.servers)))
      (changed (is_share_of_user user) of_shares (λ _. calm.remove_share _) (values s.shares))
      (changed (is_code_of_user user) of_codes (λ _. calm.remove_code _) (values s.codes))
      (changed (is_called (clients_of_user user)) of_clients (λ _. calm.remove_client _) (values s.clients))
      (changed (is_grant_of_user user) of_grants (λ _. calm.remove_grant _) (values s.grant_codes))

  calm_group : (s : State) (group : List ℕ) → AreCalm (group_rows s group)
  calm_group s group =
      let of_shares : Share → RowChange = λ share. Remove (RowKey.Share share.key) in
      let row : List RowChange = Remove (RowKey.Group group) ∷ [] in
      three (changes_of (is_held_by_group group) (without_group group) (values s.roles)) row (changes_of (is_share_to_group group) of_shares (values s.shares))
      (changed (is_held_by_group group) (without_group group) (λ _. calm.put_role _) (values s.roles))
      (one (Remove (RowKey.Group group)) (calm.remove_group group))
      (changed (is_share_to_group group) of_shares (λ _. calm.remove_share _) (values s.shares))

  calm_service : (s : State) (service : List ℕ) → AreCalm (service_rows s service)
  calm_service s service =
      let of_tokens : Token → RowChange = λ token. Remove (RowKey.Token token.id) in
      let of_clients : OAuthClient → RowChange = λ client. Remove (RowKey.OAuthClient client.id) in
      let roles : List RowChange = changes_of (is_held_by_service service) (without_service service) (values s.roles) in
      let row : List RowChange = Remove (RowKey.Service service) ∷ [] in
      let tokens : List RowChange = changes_of (is_token_of_service service) of_tokens (values s.tokens) in
      let clients : List RowChange = changes_of (is_client (client_of_service service)) of_clients (values s.clients) in
      calm-append (roles ++ row ++ tokens) clients
      (three roles row tokens
      (changed (is_held_by_service service) (without_service service) (λ _. calm.put_role _) (values s.roles))
      (one (Remove (RowKey.Service service)) (calm.remove_service service))
      (changed (is_token_of_service service) of_tokens (λ _. calm.remove_token _) (values s.tokens)))
      (changed (is_client (client_of_service service)) of_clients (λ _. calm.remove_client _) (values s.clients))

  -- ---- what the rules make

  calm_by_then : (rows : List RowChange) (g : Good) → AreCalm rows → Calm test (rows_then rows g)
  calm_by_then [] g h = tt
  calm_by_then (r ∷ rest) g h = h

  same_ok : (x y : List RowChange) → (let a : rules.Answer = Ok x in let b : rules.Answer = Ok y in a ≡ b) → x ≡ y
  same_ok x y e = cc

  not_ok : (x : List RowChange) (r : RuleRefusal) → (let a : rules.Answer = Err r in let b : rules.Answer = Ok x in a ≡ b) → ⊥
  not_ok x r e = cc

  -- the rows that no rule refuses
  ruled : (checks : List (Option RuleRefusal)) (made rows : List RowChange) → rules.by_rules checks made ≡ Ok rows → made ≡ rows
  ruled [] made rows e = same_ok made rows e
  ruled (None ∷ checks) made rows e = ruled checks made rows e
  ruled (Some r ∷ checks) made rows e = absurd (not_ok rows r e)

  calm_by_rules : (s : Hub) (made : rules.Answer) (reply : Hub → Good) → ((rows : List RowChange) → made ≡ Ok rows → AreCalm rows) → Calm test (by_rules s made reply)
  calm_by_rules s (Ok rows) reply h = calm_by_then rows (reply (after_rows rows s)) (h rows refl)
  calm_by_rules s (Err e) reply h = tt

  -- ---- what the rules make

  calm_by_if : (b : Bool) (made : List RowChange) → AreCalm made → AreCalm (cond b made [])
  calm_by_if true made h = h
  calm_by_if false made h = refl

  calm_by_unless : (b : Bool) (made : List RowChange) → AreCalm made → AreCalm (cond b [] made)
  calm_by_unless true made h = refl
  calm_by_unless false made h = h

  calm_by_ruled : (checks : List (Option RuleRefusal)) (made rows : List RowChange) → AreCalm made → rules.by_rules checks made ≡ Ok rows → AreCalm rows
  calm_by_ruled checks made rows h e = subst AreCalm (ruled checks made rows e) h

  calm_by_ok : (made rows : List RowChange) → AreCalm made → (let a : rules.Answer = Ok made in let b : rules.Answer = Ok rows in a ≡ b) → AreCalm rows
  calm_by_ok made rows h e = subst AreCalm (same_ok made rows e) h

  new_users : (t : State) (names : List (List ℕ)) (admin : Bool) (now : ℕ) (rows : List RowChange) → users.add_users t names admin now ≡ Ok rows → AreCalm rows
  new_users t names admin now rows e =
      let new : List (List ℕ) = users.unkept_users t names in
      calm_by_ruled (users.if_none_new new names ∷ rules.if_full 1 t.limits.users (len t.users) (length new) ∷ []) (map (users.new_user admin now) new) rows
      (calm_users admin now new) e

  one_admin : (admin : Bool) (kept : Option User) → AreCalm (users.with_admin admin kept)
  one_admin admin None = refl
  one_admin admin (Some x) = calm_by_unless (users.same_bool x.admin admin) (Put (Row.User (record x { admin = admin })) ∷ []) (one _ (calm.put_user _))

  one_group : (change : List (List ℕ) → List (List ℕ)) (kept : Option Group) → AreCalm (groups.with_members change kept)
  one_group change None = refl
  one_group change (Some x) = calm_by_unless (groups.same_names (change x.users) x.users) (Put (Row.Group (record x { users = change x.users })) ∷ []) (one _ (calm.put_group _))

  one_role : (r : Role) (kept : Option Role) → AreCalm (roles.role_put r kept)
  one_role r None = one (Put (Row.Role r)) (calm.put_role r)
  one_role r (Some k) = calm_by_unless (roles.same_role r k) (Put (Row.Role r) ∷ []) (one _ (calm.put_role _))

  user_seen : (user : User) (at : Option ℕ) → AreCalm (servers.user_seen user at)
  user_seen user None = refl
  user_seen user (Some at) = one _ (calm.put_user _)

  user_active : (now : ℕ) (told : Option ℕ) (kept : Option User) → AreCalm (servers.user_activity now told kept)
  user_active now told None = refl
  user_active now told (Some user) = user_seen user (servers.newer now user.last_activity told)

  server_seen : (row : ServerRow) (at : Option ℕ) → AreCalm (servers.server_seen row at)
  server_seen row None = refl
  server_seen row (Some at) = one _ (calm.put_server _)

  server_active : (now : ℕ) (told : Option ℕ) (kept : Option ServerRow) → AreCalm (servers.server_activity now told kept)
  server_active now told None = refl
  server_active now told (Some row) = server_seen row (servers.newer now row.last_activity told)

  servers_active : (t : State) (now : ℕ) (user : List ℕ) (told : servers.Told) → AreCalm (servers.servers_activity t now user told)
  servers_active t now user [] = refl
  servers_active t now user (x ∷ rest) =
      calm-append (servers.server_activity now x.1 (get t.servers (servers.server_of user x.0))) (servers.servers_activity t now user rest)
      (server_active now x.1 (get t.servers (servers.server_of user x.0))) (servers_active t now user rest)

  all_active : (t : State) (now : ℕ) (user : List ℕ) (last : Option ℕ) (told : servers.Told) → AreCalm (servers.user_activity now last (get t.users user) ++ servers.servers_activity t now user told)
  all_active t now user last told =
      calm-append (servers.user_activity now last (get t.users user)) (servers.servers_activity t now user told) (user_active now last (get t.users user)) (servers_active t now user told)

  calm_server : (t : State) (server : ServerKey) → AreCalm (server_rows t server)
  calm_server t server =
      let of_shares : Share → RowChange = λ share. Remove (RowKey.Share share.key) in
      let of_codes : ShareCode → RowChange = λ code. Remove (RowKey.ShareCode code.id) in
      let row : List RowChange = Remove (RowKey.ServerRow server) ∷ [] in
      three row (changes_of (is_share_of_server server) of_shares (values t.shares)) (changes_of (is_code_of_server server) of_codes (values t.codes))
      (one (Remove (RowKey.ServerRow server)) (calm.remove_server server))
      (changed (is_share_of_server server) of_shares (λ _. calm.remove_share _) (values t.shares))
      (changed (is_code_of_server server) of_codes (λ _. calm.remove_code _) (values t.codes))

  -- ---- starts and stops, whose rows follow from their kind of change

  calm_by_or : (o : Option Refusal) (r : Answer) → Calm test r → Calm test (or_refusal r o)
  calm_by_or None r h = h
  calm_by_or (Some x) r h = tt

  targeted : (s : Hub) (now : ℕ) (secret : List ℕ) (server : ServerKey) (target : Option (List ℕ)) → Calm test (on_target s now secret server target)
  targeted s now secret server None = tt
  targeted s now secret server (Some target) = tt

  begun : (step : LifeStep) (r : Answer) → Calm test r → Calm test (on_begin step r)
  begun (Ok next) r h = h
  begun (Err Running) r h = tt
  begun (Err PendingSpawn) r h = tt
  begun (Err PendingStop) r h = tt
  begun (Err (OldGeneration g)) r h = tt
  begun (Err NotNow) r h = tt

  starting : (s : Hub) (now : ℕ) (server : ServerKey) (draw : Option (List ℕ)) → Calm test (post_server s now draw server)
  starting s now server None = tt
  starting s now server (Some draw) =
      let secret : List ℕ = draw_text draw in
      begun (life_after (life_of s.lives server) (next_generation s.tables) Begin) (may_start s now secret server)
      (calm_by_or (first_refusal (start_rules s.tables secret server)) (on_target s now secret server (free_target s.pool s.lives))
      (targeted s now secret server (free_target s.pool s.lives)))

  going_on : (server : ServerKey) (g : ℕ) (l : Leased) (todo : Todo) → Calm test (goes_on server g l todo)
  going_on server g l Nothing = tt
  going_on server g l Start = tt
  going_on server g l AddRoute = tt
  going_on server g l DeleteRoute = tt
  going_on server g l StopProgram = tt
  going_on server g l Poll = tt

  stopped : (server : ServerKey) (g : ℕ) (l : Leased) (step : LifeStep) → Calm test (on_stop server g l step)
  stopped server g l (Err e) = tt
  stopped server g l (Ok next) = going_on server g l next.1

  resting : (s : Hub) (server : ServerKey) (remove : Bool) → Calm test (at_rest s server remove)
  resting s server true = calm_by_rules s (servers.delete_server s.tables server) done
      (λ rows e. calm_by_ok _ rows (calm_by_if (contains_key s.tables.servers server) (server_rows s.tables server) (calm_server s.tables server)) e)
  resting s server false = tt

  stopping : (s : Hub) (server : ServerKey) (remove : Bool) (held : Option (ℕ × Leased)) → Calm test (on_lease s server remove held)
  stopping s server remove None = resting s server remove
  stopping s server remove (Some held) = stopped server held.0 held.1 (life_after held.1.life held.0 AskStop)

  -- ---- shares and share codes

  calm_told : {X : Type 0} (given : Result X ShareError) (answer : X → Answer) → ((x : X) → Calm test (answer x)) → Calm test (on_shares.by_rules given answer)
  calm_told (Ok x) answer h = h x
  calm_told (Err e) answer h = tt

  share_put : (share : Share) (kept : Option Share) → AreCalm (on_shares.share_put share kept)
  share_put share kept = calm_by_unless (on_shares.is_as_before share kept) (Put (Row.Share share) ∷ []) (one _ (calm.put_share share))

  put_share : (s : Hub) (share : Share) → Calm test (on_shares.put_share s share)
  put_share s share =
      let rows : List RowChange = on_shares.share_put share (get s.tables.shares share.key) in
      calm_by_or (first_refusal (if_so (on_shares.is_without_room s.tables share) (TooMany 8 s.tables.limits.shares) ∷ [])) (rows_then rows (good 200 (share_body share)))
      (calm_by_then rows (good 200 (share_body share)) (share_put share (get s.tables.shares share.key)))

  left_rows : (left kept : Option Share) → AreCalm (on_shares.left_rows left kept)
  left_rows None None = refl
  left_rows (Some share) None = refl
  left_rows None (Some kept) = one (Remove (RowKey.Share kept.key)) (calm.remove_share kept.key)
  left_rows (Some share) (Some kept) = share_put share (Some kept)

  patched : (s : Hub) (server : ServerKey) (to : Option Recipient) (scopes : List RawScope) → Calm test (on_shares.patch_share s server to scopes)
  patched s server to scopes =
      let kept = on_shares.share_with s.tables server to in
      calm_told (revoke_share s.tables server to scopes) (on_shares.left_share kept)
      (λ left. calm_by_then (on_shares.left_rows left kept) (good 200 (on_shares.left_body left)) (left_rows left kept))

  unshared : (s : Hub) (server : ServerKey) → Calm test (on_shares.delete_shares s server)
  unshared s server =
      let keys = shares_of s.tables (Server server) in
      calm_by_then (on_shares.removals keys) (good 204 []) (calm-map (λ key. Remove (RowKey.Share key)) (λ key. calm.remove_share key) keys)

  withdrawn : (s : Hub) (server : ServerKey) (id : Option ℕ) → Calm test (on_codes.delete_codes s server id)
  withdrawn s server id =
      let ids = on_codes.named_codes s.tables server id in
      calm_by_then (on_codes.removals ids) (good 204 []) (calm-map (λ id. Remove (RowKey.ShareCode id)) (λ id. calm.remove_code id) ids)

  -- ---- codes of the grant

  grant_put : (t : State) (over : List (List ℕ)) (text : List ℕ) (given : Option (List ℕ)) (code : OAuthCode) → Calm test (on_grants.put_code t over text given code)
  grant_put t over text given code =
      calm_by_or (first_refusal (on_grants.code_rules t over code)) (on_grants.granted code over text given)
      (both (test (Put (Row.OAuthCode code))) (list_any test (on_grants.removals over)) (calm.put_grant code)
      (calm-map (λ hash. Remove (RowKey.OAuthCode hash)) (λ hash. calm.remove_grant hash) over))

  grant_to : (t : State) (now : ℕ) (text : List ℕ) (owner : Owner) (given : Option (List ℕ)) (client : OAuthClient) → Calm test (on_grants.grant_to t now text owner given client)
  grant_to t now text (Own.User user) given client = grant_put t (expired_codes t now) text given (made_code client user text now)
  grant_to t now text (Own.Service service) given client = tt

  calm_by_client : (asks : Result OAuthClient OAuthError) (answer : OAuthClient → Answer) → ((client : OAuthClient) → Calm test (answer client)) → Calm test (on_grants.by_client asks answer)
  calm_by_client (Ok client) answer h = h client
  calm_by_client (Err e) answer h = tt

  authorized : (s : Hub) (now : ℕ) (draw : Option (List ℕ)) (owner : Owner) (ask : AuthorizeAsk) → Calm test (on_grants.get_authorize s now draw owner ask)
  authorized s now None owner ask = tt
  authorized s now (Some draw) owner ask =
      calm_by_client (client_of s.tables ask) (on_grants.grant_to s.tables now (draw_text draw) owner ask.state) (grant_to s.tables now (draw_text draw) owner ask.state)

  -- ---- each call that issues no token and no share code

  calm_by_row : (s : Hub) (may : Rights) (inside : Inside) (now : ℕ) (draw : Option (List ℕ)) (k : Token) (call : Call) → issues call ≡ false → Calm test (row s may inside now draw k call)
  calm_by_row s may inside now draw k (PostUsers names admin) old = calm_by_rules s (users.add_users s.tables names admin now) _ (new_users s.tables names admin now)
  calm_by_row s may inside now draw k (PostUser user) old = calm_by_rules s (users.add_users s.tables (user ∷ []) false now) _ (new_users s.tables (user ∷ []) false now)
  calm_by_row s may inside now draw k (PatchUser user admin) old = calm_by_rules s (users.set_admin s.tables user admin) (λ after. good 200 (user_at may after user)) (λ rows e. calm_by_ok _ rows (one_admin admin (get s.tables.users user)) e)
  calm_by_row s may inside now draw k (DeleteUser user) old = calm_by_rules s (users.delete_user s.tables user (has_live_server s.lives user)) _
      (λ rows e. calm_by_ruled (rules.if_so (has_live_server s.lives user) LiveServers ∷ []) _ rows (calm_by_if (contains_key s.tables.users user) (user_rows s.tables user) (calm_user s.tables user)) e)
  calm_by_row s may inside now draw k (PostActivity user last told) old = calm_by_rules s (servers.note_activity s.tables user now last told) done
      (λ rows e. calm_by_ruled (servers.if_unknown_server s.tables user told ∷ []) _ rows (all_active s.tables now user last told) e)
  calm_by_row s may inside now draw k (PostServer server) old = starting s now server draw
  calm_by_row s may inside now draw k (DeleteServer server remove) old =
      calm_by_or (first_refusal (if_so (remove && is_default server.server) (NotSo (codes "default server")) ∷ [])) (on_lease s server remove (lease_of s.lives server))
      (stopping s server remove (lease_of s.lives server))
  calm_by_row s may inside now draw k (PostToken ask) old = absurd (not_old old)
  calm_by_row s may inside now draw k (DeleteToken user id) old = one (Remove (RowKey.Token id)) (calm.remove_token id)
  calm_by_row s may inside now draw k (AcceptCode user code) old = calm_told (rules_on_codes.accept_code s.tables user code now) (on_shares.put_share s) (put_share s)
  calm_by_row s may inside now draw k (PostShare server to scopes) old = calm_told (grant_share s.tables server to scopes now) (on_shares.put_share s) (put_share s)
  calm_by_row s may inside now draw k (PatchShare server to scopes) old = patched s server to scopes
  calm_by_row s may inside now draw k (DeleteShares server) old = unshared s server
  calm_by_row s may inside now draw k (PostCode server scopes expires_in) old = absurd (not_old old)
  calm_by_row s may inside now draw k (DeleteCodes server id) old = withdrawn s server id
  calm_by_row s may inside now draw k (PostGroup group names) old = calm_by_rules s (groups.add_group s.tables group names) _
      (λ rows e. calm_by_ruled (rules.if_so (contains_key s.tables.groups group) (Exists group) ∷ groups.if_unknown_user s.tables names ∷ rules.if_full 2 s.tables.limits.groups (len s.tables.groups) 1 ∷ []) (Put (Row.Group (record { name = group; users = in_order name_cmp names })) ∷ []) rows (one _ (calm.put_group _)) e)
  calm_by_row s may inside now draw k (DeleteGroup group) old = calm_by_rules s (groups.delete_group s.tables group) done
      (λ rows e. calm_by_ok _ rows (calm_by_if (contains_key s.tables.groups group) (group_rows s.tables group) (calm_group s.tables group)) e)
  calm_by_row s may inside now draw k (JoinGroup group names) old = calm_by_rules s (groups.join_group s.tables group names) _
      (λ rows e. calm_by_ruled (groups.if_unknown_user s.tables names ∷ []) _ rows (one_group (with_keys name_cmp names) (get s.tables.groups group)) e)
  calm_by_row s may inside now draw k (LeaveGroup group names) old = calm_by_rules s (groups.leave_group s.tables group names) _
      (λ rows e. calm_by_ruled (groups.if_unknown_user s.tables names ∷ []) _ rows (one_group (without_keys name_cmp names) (get s.tables.groups group)) e)
  calm_by_row s may inside now draw k (PostService service) old = calm_by_rules s (services.add_service s.tables service) _
      (λ rows e. calm_by_ruled (rules.if_so (contains_key s.tables.services service) (Exists service) ∷ rules.if_full 3 s.tables.limits.services (len s.tables.services) 1 ∷ []) (Put (Row.Service (record { name = service })) ∷ []) rows (one _ (calm.put_service _)) e)
  calm_by_row s may inside now draw k (DeleteService service) old = calm_by_rules s (services.delete_service s.tables service) done
      (λ rows e. calm_by_ok _ rows (calm_by_if (contains_key s.tables.services service) (service_rows s.tables service) (calm_service s.tables service)) e)
  calm_by_row s may inside now draw k (PutRole role scopes us gs vs) old =
      let x : Role = role_of role scopes us gs vs in
      calm_by_rules s (roles.put_role s.tables x) _
      (λ rows e. calm_by_ruled (rules.if_so (roles.is_fixed_role x.name) FixedRole ∷ roles.if_unknown_scope s.tables.scopes x.scopes ∷ roles.if_unknown_holder s.tables x
      ∷ rules.if_full 4 s.tables.limits.roles (len s.tables.roles) (cond (contains_key s.tables.roles x.name) 0 1) ∷ []) _ rows (one_role x (get s.tables.roles x.name)) e)
  calm_by_row s may inside now draw k (DeleteRole role) old = calm_by_rules s (roles.delete_role s.tables role) _
      (λ rows e. calm_by_ruled (rules.if_so (roles.is_fixed_role role) FixedRole ∷ []) _ rows (calm_by_if (contains_key s.tables.roles role) (Remove (RowKey.Role role) ∷ []) (one _ (calm.remove_role _))) e)
  calm_by_row s may inside now draw k (GetAuthorize ask) old = authorized s now draw k.owner ask
  calm_by_row s may inside now draw k (PostTrade ask) old = absurd (not_old old)
  calm_by_row s may inside now draw k _ old = tt

  -- ---- the frame

  calm_by_token : (s : Hub) (j : Judgement) (now : ℕ) (draw : Option (List ℕ)) (call : Call) (k : Option Token) → issues call ≡ false → Calm test (by_token s j now draw call k)
  calm_by_token s j now draw call None old = tt
  calm_by_token s j now draw call (Some k) old =
      calm_by_or (first_refusal (if_no_client s.tables call ∷ action_rules j (needs call))) (if_there s j.may j.inside now draw k call)
      (calm_by_or (first_refusal (if_so (not (is_there s.tables call)) NotFound ∷ [])) (row s j.may j.inside now draw k call) (calm_by_row s j.may j.inside now draw k call old))

  calm_by_nobody : (s : Hub) (now : ℕ) (draw : Option (List ℕ)) (call : Call) → issues call ≡ false → Calm test (by_nobody s now draw call)
  calm_by_nobody s now draw (PostTrade ask) old = absurd (not_old old)
  calm_by_nobody s now draw _ old = tt

  pub calm_by_call : (s : Hub) (j : Judgement) (now : ℕ) (draw : Option (List ℕ)) (call : Call) (k : Option Token) (b : Bool) → issues call ≡ false → Calm test (cond b (by_token s j now draw call k) (by_nobody s now draw call))
  calm_by_call s j now draw call k true old = calm_by_token s j now draw call k old
  calm_by_call s j now draw call k false old = calm_by_nobody s now draw call old

  calm_if : (r : Answer) (b : Bool) → Calm test r → Calm test (cond b (refuses TrailFull) r)
  calm_if r true h = tt
  calm_if r false h = h

  calm_in_trail : (s : Hub) (r : Answer) → Calm test r → Calm test (in_trail s r)
  calm_in_trail s (refuses x) h = tt
  calm_in_trail s (gives g) h = tt
  calm_in_trail s (refuses_with c x) h = calm_if (refuses_with c x) (is_past_trail s c) h
  calm_in_trail s (changes c g) h = calm_if (changes c g) (is_past_trail s c) h
  calm_in_trail s (works c w) h = calm_if (works c w) (is_past_trail s c) h

  pub calm_answer : (s : Hub) (now : ℕ) (draw : Option (List ℕ)) (asked : Asked) (r : Answer) → issues asked.call ≡ false → Answers s now draw asked r → Calm test r
  calm_answer s now draw asked r old a =
      let by : Answer = by_call s a.judgement now draw (caller s now asked) asked.call in
      subst (Calm test) (sym a.is)
      (calm_by_or (first_refusal (if_so (is_past s.length asked.seen) (SeenPast (named asked.seen) s.length) ∷ [])) (in_trail s by)
      (calm_in_trail s by (calm_by_call s a.judgement now draw asked.call (caller s now asked) (needs_token asked.call) old)))
