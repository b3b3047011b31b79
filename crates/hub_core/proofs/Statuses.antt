-- What the rules answer is no 503: that status is for a keeper's refusal alone.
use Rattle.std.proofs.Common.{◌≡◌, ◌==◌, ℕ, Bool, true, false, not, cond, [], ◌∷◌, List, Option, refl, sym, ap, ◌∙◌, subst, eq-eqb}
use Rattle.std.specs.Prelude.{Some, None, IsSome, Result, Ok, Err}
use Rattle.scope_meet.specs.declared.inside.Inside.{Inside}
use Rattle.hub_rows.specs.declared.records.Token.{Token}
use Rattle.hub_view.specs.Fields.{Rights}
use Rattle.hub_machine.specs.State.{Hub}
use Rattle.hub_machine.specs.Apply.{is_past_trail}
use Rattle.hub_machine.specs.Replies as replies
use Rattle.hub_machine.specs.Replies.{Answer, refuses, refuses_with, gives, changes, works, Outcome, answered, working, Reply, if_so, outcome_of, status_of}
use Rattle.hub_machine.specs.Trails.{in_trail}
use Rattle.hub_calls.specs.RoleCalls.{role_of}
use Rattle.hub_rows.specs.declared.records.OAuthClient.{OAuthClient}
use Rattle.hub_tables.specs.State.{State}
use Rattle.oauth_flow.specs.Clients.{client_of}
use Rattle.oauth_flow.specs.declared.asks.OAuthError.{OAuthError}
use Rattle.access_calls.specs.GrantCalls.{refusal_in}
use Rattle.hub_machine.proofs.Statuses.{is_503}
use Rattle.hub_calls.proofs.UserCalls as users
use Rattle.hub_calls.proofs.ServerCalls as servers
use Rattle.hub_calls.proofs.StartCalls as starts
use Rattle.hub_calls.proofs.StopCalls as stops
use Rattle.access_calls.proofs.CodeCalls as codes
use Rattle.access_calls.proofs.GrantCalls as grants
use Rattle.access_calls.proofs.ShareCalls as shares
use Rattle.access_calls.proofs.TokenCalls as tokens
use Rattle.hub_machine.specs.Draws.{draws}
use Rattle.hub_calls.proofs.GroupCalls as groups
use Rattle.hub_calls.proofs.ServiceCalls as services
use Rattle.hub_calls.proofs.RoleCalls as roles
use Rattle.hub_core.specs.Needs.{needs, needs_token, is_there}
use Rattle.hub_core.specs.Answer.{Judgement, row, if_there, if_no_client, action_rules, by_nobody, by_token, by_call, caller, is_past, named}
use Rattle.hub_core.specs.History.{Answers}
use Rattle.hub_core.specs.declared.need.Need.{Need}
use Rattle.hub_core.specs.declared.need.Need.TheVariants.{GoodToken, Held, On}
use Rattle.hub_machine.specs.declared.refusal.Refusal.{Refusal}
use Rattle.hub_machine.specs.declared.refusal.Refusal.TheVariants.{SeenPast, Needs, NotFound, TrailFull}
use Rattle.hub_machine.specs.declared.call.Asked.{Asked}
use Rattle.hub_machine.specs.declared.call.Call.{Call}
use Rattle.hub_machine.specs.declared.call.Call.TheVariants.{PostUsers, PostUser, PatchUser, DeleteUser, PostActivity, PostServer, DeleteServer, PostToken, AcceptCode, PostShare, PatchShare, DeleteShares, PostCode, DeleteCodes, PostGroup, DeleteGroup, JoinGroup, LeaveGroup, PostService, DeleteService, PutRole, DeleteRole, GetAuthorize, PostTrade}

-- ---- the calls

no_row : (s : Hub) (may : Rights) (inside : Inside) (now : ℕ) (draw : Option (List ℕ)) (k : Token) (call : Call) → (draws call ≡ true → IsSome draw) → is_503 (row s may inside now draw k call) ≡ false
no_row s may inside now draw k (PostUsers names admin) h = users.post_users s may now names admin
no_row s may inside now draw k (PostUser user) h = users.post_user s may now user
no_row s may inside now draw k (PatchUser user admin) h = users.patch_user s may user admin
no_row s may inside now draw k (DeleteUser user) h = users.delete_user s user
no_row s may inside now draw k (PostActivity user last_activity told) h = servers.post_activity s now user last_activity told
no_row s may inside now draw k (PostServer server) h = starts.post_server s now draw server (h refl)
no_row s may inside now draw k (DeleteServer server remove) h = stops.delete_server s server remove
no_row s may inside now draw k (PostToken ask) h = tokens.post_token s now draw inside ask (h refl)
no_row s may inside now draw k (AcceptCode user code) h = codes.accept_code s now user code
no_row s may inside now draw k (PostShare server to scopes) h = shares.post_share s now server to scopes
no_row s may inside now draw k (PatchShare server to scopes) h = shares.patch_share s server to scopes
no_row s may inside now draw k (DeleteShares server) h = shares.delete_shares s server
no_row s may inside now draw k (PostCode server scopes expires_in) h = codes.post_code s now draw server scopes expires_in (h refl)
no_row s may inside now draw k (DeleteCodes server id) h = codes.delete_codes s server id
no_row s may inside now draw k (PostGroup group names) h = groups.post_group s may group names
no_row s may inside now draw k (DeleteGroup group) h = groups.delete_group s group
no_row s may inside now draw k (JoinGroup group names) h = groups.join_group s may group names
no_row s may inside now draw k (LeaveGroup group names) h = groups.leave_group s may group names
no_row s may inside now draw k (PostService service) h = services.post_service s may service
no_row s may inside now draw k (DeleteService service) h = services.delete_service s service
no_row s may inside now draw k (PutRole role scopes us gs vs) h = roles.put_role s (role_of role scopes us gs vs)
no_row s may inside now draw k (DeleteRole role) h = roles.delete_role s role
no_row s may inside now draw k (GetAuthorize ask) h = grants.get_authorize s now draw k.owner ask (h refl)
no_row s may inside now draw k (PostTrade ask) h = grants.post_trade s now draw ask (h refl)
no_row s may inside now draw k _ h = refl

-- ---- the frame

no_first : (b : Bool) (x : Refusal) (r : Answer) → (status_of x == 503) ≡ false → is_503 r ≡ false → is_503 (replies.rules (if_so b x ∷ []) r) ≡ false
no_first true x r hx h = hx
no_first false x r hx h = h

no_second : (b c : Bool) (x y : Refusal) (r : Answer) → (status_of x == 503) ≡ false → (status_of y == 503) ≡ false → is_503 r ≡ false
    → is_503 (replies.rules (if_so b x ∷ if_so c y ∷ []) r) ≡ false
no_second true c x y r hx hy h = hx
no_second false true x y r hx hy h = hy
no_second false false x y r hx hy h = h

no_action : (j : Judgement) (need : Need) (r : Answer) → is_503 r ≡ false → is_503 (replies.rules (action_rules j need) r) ≡ false
no_action j GoodToken r h = h
no_action j (Held a) r h = no_first (not j.is_held) (Needs a) r refl h
no_action j (On a x) r h = no_second (not j.is_held) (not (j.may a x)) (Needs a) NotFound r refl refl h

no_asking : (asks : Result OAuthClient OAuthError) (rest : List (Option Refusal)) (r : Answer) → is_503 (replies.rules rest r) ≡ false → is_503 (replies.rules (refusal_in asks ∷ rest) r) ≡ false
no_asking (Ok client) rest r h = h
no_asking (Err e) rest r h = grants.no_refusal e

no_client : (t : State) (call : Call) (rest : List (Option Refusal)) (r : Answer) → is_503 (replies.rules rest r) ≡ false → is_503 (replies.rules (if_no_client t call ∷ rest) r) ≡ false
no_client t (GetAuthorize ask) rest r h = no_asking (client_of t ask) rest r h
no_client t _ rest r h = h

-- what is drawn for a call that draws
abbrev HasDraw : Call → Option (List ℕ) → Type 0
HasDraw call draw = draws call ≡ true → IsSome draw

no_token : (s : Hub) (j : Judgement) (now : ℕ) (draw : Option (List ℕ)) (call : Call) (k : Option Token) → HasDraw call draw → is_503 (by_token s j now draw call k) ≡ false
no_token s j now draw call None h = refl
no_token s j now draw call (Some k) h =
    no_client s.tables call (action_rules j (needs call)) (if_there s j.may j.inside now draw k call)
    (no_action j (needs call) (if_there s j.may j.inside now draw k call)
    (no_first (not (is_there s.tables call)) NotFound (row s j.may j.inside now draw k call) refl (no_row s j.may j.inside now draw k call h)))

no_nobody : (s : Hub) (now : ℕ) (draw : Option (List ℕ)) (call : Call) → HasDraw call draw → is_503 (by_nobody s now draw call) ≡ false
no_nobody s now draw (PostTrade ask) h = grants.post_trade s now draw ask (h refl)
no_nobody s now draw _ h = refl

no_call : (s : Hub) (j : Judgement) (now : ℕ) (draw : Option (List ℕ)) (call : Call) (k : Option Token) (b : Bool) → HasDraw call draw → is_503 (cond b (by_token s j now draw call k) (by_nobody s now draw call)) ≡ false
no_call s j now draw call k true h = no_token s j now draw call k h
no_call s j now draw call k false h = no_nobody s now draw call h

no_room : (r : Answer) (b : Bool) → is_503 r ≡ false → is_503 (cond b (refuses TrailFull) r) ≡ false
no_room r true h = refl
no_room r false h = h

no_trail : (s : Hub) (r : Answer) → is_503 r ≡ false → is_503 (in_trail s r) ≡ false
no_trail s (refuses x) h = h
no_trail s (gives g) h = h
no_trail s (refuses_with c x) h = no_room (refuses_with c x) (is_past_trail s c) h
no_trail s (changes c g) h = no_room (changes c g) (is_past_trail s c) h
no_trail s (works c w) h = no_room (works c w) (is_past_trail s c) h

no_503 : (s : Hub) (now : ℕ) (draw : Option (List ℕ)) (asked : Asked) (r : Answer) → HasDraw asked.call draw → Answers s now draw asked r → is_503 r ≡ false
no_503 s now draw asked r h a =
    let by : Answer = by_call s a.judgement now draw (caller s now asked) asked.call in
    subst (λ (x : Answer). is_503 x ≡ false) (sym a.is)
    (no_first (is_past s.length asked.seen) (SeenPast (named asked.seen) s.length) (in_trail s by) refl
    (no_trail s by (no_call s a.judgement now draw asked.call (caller s now asked) (needs_token asked.call) h)))

not_both : true ≡ false → ⊥
not_both e = cc

-- the status of an answer's reply; a start or a stop has none yet
abbrev status_in : Outcome → ℕ
status_in (answered reply) = reply.status
status_in (working w) = 0

said : (n : ℕ) (r : Answer) → is_503 r ≡ false → status_in (outcome_of n r) ≡ 503 → ⊥
said n (refuses r) h e = not_both (sym (eq-eqb (status_of r) 503 e) ∙ h)
said n (refuses_with c r) h e = not_both (sym (eq-eqb (status_of r) 503 e) ∙ h)
said n (gives g) h e = not_both (sym (eq-eqb g.status 503 e) ∙ h)
said n (changes c g) h e = not_both (sym (eq-eqb g.status 503 e) ∙ h)
said n (works c w) h e = cc e

-- where what is drawn is there, no answer's reply is a 503
pub never_503 : (n : ℕ) (s : Hub) (now : ℕ) (draw : Option (List ℕ)) (asked : Asked) (r : Answer) (reply : Reply) → HasDraw asked.call draw → Answers s now draw asked r
    → outcome_of n r ≡ answered reply → reply.status ≡ 503 → ⊥
never_503 n s now draw asked r reply h a is e = said n r (no_503 s now draw asked r h a) (ap status_in is ∙ e)
