-- The change of an answer may be done: the history has room for it, and it fits. And it numbers its tokens.
use Rattle.std.proofs.Common.{◌≡◌, ◌<◌, ◌^◌, ℕ, Bool, true, false, ◌&&◌, not, cond, List, [], ◌∷◌, Option, refl, sym, ◌∙◌, ap, subst, inl, inr, codes}
use Rattle.std.specs.Prelude.{Some, None, Result, Ok, Err, IfOk}
use Rattle.std.specs.FinMap.{get}
use Rattle.std.specs.List.{list_any}
use Rattle.hub_rows.specs.declared.changes.RowChange.{RowChange}
use Rattle.hub_rows.specs.declared.records.Share.{Share}
use Rattle.hub_rows.specs.declared.records.Token.{Token}
use Rattle.hub_tables.specs.Changes.{puts_hashed}
use Rattle.hub_tables.specs.Lookups.{is_default, next_of}
use Rattle.shares.specs.Codes.{accept_code, expired_codes, make_code}
use Rattle.oauth_flow.specs.Clients.{client_of}
use Rattle.oauth_flow.specs.Codes.{expired_codes as expired_grants, made_code}
use Rattle.oauth_flow.specs.Trades.{trade}
use Rattle.oauth_flow.specs.declared.asks.AuthorizeAsk.{AuthorizeAsk}
use Rattle.oauth_flow.specs.declared.asks.OAuthError.{OAuthError}
use Rattle.oauth_flow.specs.declared.asks.TradeAsk.{TradeAsk}
use Rattle.hub_rows.specs.declared.records.OAuthClient.{OAuthClient}
use Rattle.hub_rows.specs.declared.records.OAuthCode.{OAuthCode}
use Rattle.scope_filters.specs.declared.holder.Owner.{Owner}
use Rattle.shares.specs.Granting.{grant_share, revoke_share}
use Rattle.shares.specs.Lists.{shares_of}
use Rattle.shares.specs.declared.allowed.ShareError.{ShareError}
use Rattle.shares.specs.declared.lists.SharesOf.TheVariants.{Server}
use Rattle.admin_rules.proofs.Plain.{plain_fit}
use Rattle.admin_rules.specs.Users as users
use Rattle.admin_rules.specs.Groups as groups
use Rattle.admin_rules.specs.Services as services
use Rattle.admin_rules.specs.Roles as roles
use Rattle.admin_rules.specs.Servers as servers
use Rattle.hub_view.specs.Fields.{Rights}
use Rattle.hub_view.specs.Records.{share_body}
use Rattle.hub_machine.specs.State.{Hub, AreLeased, has_live_server, lease_of, next_generation}
use Rattle.hub_machine.specs.Apply.{is_past_trail, rows_of}
use Rattle.hub_machine.specs.Carry.{FitsIn, touches_lives}
use Rattle.hub_machine.specs.Replies.{Answer, refuses, refuses_with, gives, changes, works, or_refusal, first_refusal, if_so, rows_then}
use Rattle.hub_machine.specs.Replies as spec
use Rattle.hub_machine.specs.Replies.{outcome_of, refusal_reply}
use Rattle.hub_machine.specs.Answers.{outcome_view}
use Rattle.hub_machine.specs.Trails.{in_trail}
use Rattle.hub_core.specs.Works.{IsSound, IsSoundOutcome}
use Rattle.hub_machine.specs.declared.reply.Outcome.{Outcome}
use Rattle.hub_machine.specs.declared.reply.Outcome.TheVariants as given
use Rattle.hub_machine.specs.declared.work.Work.{Work}
use Rattle.hub_calls.specs.Calling.{done}
use Rattle.hub_calls.specs.Facts.{user_at}
use Rattle.hub_calls.specs.RoleCalls.{role_of}
use Rattle.access_calls.specs.CodeCalls as on_codes
use Rattle.access_calls.specs.GrantCalls as on_grants
use Rattle.access_calls.specs.ShareCalls as on_shares
use Rattle.access_calls.specs.TokenCalls.{is_without_room, made, new_token, post_token, token_rules}
use Rattle.hub_kit.specs.Hashes.{draw_text}
use Rattle.hub_kit.specs.declared.names.ServerKey.{ServerKey}
use Rattle.scope_filters.specs.declared.holder.Owner.TheVariants as Own
use Rattle.scope_filters.specs.declared.scope.RawScope.{RawScope}
use Rattle.scope_meet.specs.declared.inside.Inside.{Inside}
use Rattle.token_store.specs.Finding.{expired_tokens}
use Rattle.token_store.specs.declared.issuing.TokenAsk.{TokenAsk}
use Rattle.hub_calls.specs.Stops.{on_lease}
use Rattle.hub_core.specs.Needs.{needs, needs_token, is_there}
use Rattle.hub_core.specs.Answer.{Judgement, row, if_there, if_no_client, by_nobody, by_token, by_call, action_rules, caller, is_past, named}
use Rattle.hub_core.specs.Current.{AreNumbered}
use Rattle.hub_core.specs.History.{Answers, change_of}
use Rattle.hub_core.specs.Carrying.{Carrier, Carried, MayBeDone, long_after}
use Rattle.hub_core.proofs.Calm.{IsCalm, Calm, CalmIn, calm_answer, issues}
use Rattle.hub_core.proofs.Issued.{answer_issued}
use Rattle.hub_core.proofs.Lively.{IsLively, Lively, lively_change, lively_or, lively_then, lively_by_rules, start_lively, stop_lively}
use Rattle.hub_core.proofs.Places.{says_of}
use Rattle.hub_core.proofs.Numbered.{NumbersIn, NumbersTokens, none_numbered, numbers, numbers_tokens}
use Rattle.hub_machine.specs.declared.change.Change.{Change}
use Rattle.hub_machine.specs.declared.change.Change.TheVariants as Of
use Rattle.hub_machine.specs.declared.refusal.Refusal.{Refusal}
use Rattle.hub_machine.specs.declared.refusal.Refusal.TheVariants.{Full, Rule, SeenPast, NotFound, TrailFull, KeeperFault}
use Rattle.hub_machine.specs.declared.call.Asked.{Asked}
use Rattle.hub_machine.specs.declared.call.Call.{Call}
use Rattle.hub_machine.specs.declared.call.Call.TheVariants.{PostUsers, PostUser, PatchUser, DeleteUser, PostActivity, PostServer, DeleteServer, PostToken, AcceptCode, PostShare, PatchShare, DeleteShares, PostCode, DeleteCodes, PostGroup, DeleteGroup, JoinGroup, LeaveGroup, PostService, DeleteService, PutRole, DeleteRole, GetAuthorize, PostTrade}

-- ---- no row of an answer's change is found by a hash, and none is of the live servers, unless it starts a server

none_hashed : IsCalm puts_hashed
none_hashed = record {
  put_user = λ x. refl;
  remove_user = λ x. refl;
  put_group = λ x. refl;
  remove_group = λ x. refl;
  put_service = λ x. refl;
  remove_service = λ x. refl;
  put_role = λ x. refl;
  remove_role = λ x. refl;
  remove_token = λ x. refl;
  put_server = λ x. refl;
  put_share = λ x. refl;
  remove_server = λ x. refl;
  remove_share = λ x. refl;
  remove_code = λ x. refl;
  remove_client = λ x. refl;
  put_grant = λ x. refl;
  remove_grant = λ x. refl;
}

none_lives : IsCalm touches_lives
none_lives = record {
  put_user = λ x. refl;
  remove_user = λ x. refl;
  put_group = λ x. refl;
  remove_group = λ x. refl;
  put_service = λ x. refl;
  remove_service = λ x. refl;
  put_role = λ x. refl;
  remove_role = λ x. refl;
  remove_token = λ x. refl;
  put_server = λ x. refl;
  put_share = λ x. refl;
  remove_server = λ x. refl;
  remove_share = λ x. refl;
  remove_code = λ x. refl;
  remove_client = λ x. refl;
  put_grant = λ x. refl;
  remove_grant = λ x. refl;
}

-- ---- starts and stops, through the frame

-- that the rows of a new token fit is shown elsewhere
token_lively : (s : Hub) (now : ℕ) (draw : Option (List ℕ)) (inside : Inside) (ask : TokenAsk) → Lively s (post_token s now draw inside ask)
token_lively s now None inside ask = tt
token_lively s now (Some draw) inside ask =
    let text = draw_text draw in
    let over = expired_tokens s.tables now (Own.User ask.owner) in
    lively_or s (first_refusal (token_rules s.tables over text inside ask)) (made (new_token s.tables now text ask) over text) tt

-- ---- shares and share codes

told_lively : {X : Type 0} (s : Hub) (given : Result X ShareError) (answer : X → Answer) → ((x : X) → Lively s (answer x)) → Lively s (on_shares.by_rules given answer)
told_lively s (Ok x) answer h = h x
told_lively s (Err e) answer h = tt

put_lively : (s : Hub) (share : Share) → Lively s (on_shares.put_share s share)
put_lively s share =
    let rows = on_shares.share_put share (get s.tables.shares share.key) in
    lively_or s (first_refusal (if_so (on_shares.is_without_room s.tables share) (Full 8 s.tables.limits.shares) ∷ [])) (rows_then rows (spec.good 200 (share_body share)))
    (lively_then s rows (spec.good 200 (share_body share)))

-- that the rows of a new code fit is shown elsewhere
code_lively : (s : Hub) (now : ℕ) (draw : Option (List ℕ)) (server : ServerKey) (scopes : List RawScope) (life : ℕ) → Lively s (on_codes.post_code s now draw server scopes life)
code_lively s now None server scopes life = tt
code_lively s now (Some draw) server scopes life =
    let text = draw_text draw in
    let over = expired_codes s.tables now server in
    told_lively s (make_code server scopes life text (next_of s.tables (codes "code")) now) (on_codes.put_code s over text)
    (λ code. lively_or s (first_refusal (on_codes.code_rules s.tables over code)) (on_codes.made code over text) tt)

-- ---- codes of the grant

client_lively : (s : Hub) (asks : Result OAuthClient OAuthError) (answer : OAuthClient → Answer) → ((client : OAuthClient) → Lively s (answer client)) → Lively s (on_grants.by_client asks answer)
client_lively s (Ok client) answer h = h client
client_lively s (Err e) answer h = tt

grant_lively : (s : Hub) (now : ℕ) (text : List ℕ) (owner : Owner) (given : Option (List ℕ)) (client : OAuthClient) → Lively s (on_grants.grant_to s.tables now text owner given client)
grant_lively s now text (Own.User user) given client =
    let over = expired_grants s.tables now in
    let code : OAuthCode = made_code client user text now in
    lively_or s (first_refusal (on_grants.code_rules s.tables over code)) (on_grants.granted code over text given) tt
grant_lively s now text (Own.Service service) given client = tt

authorize_lively : (s : Hub) (now : ℕ) (draw : Option (List ℕ)) (owner : Owner) (ask : AuthorizeAsk) → Lively s (on_grants.get_authorize s now draw owner ask)
authorize_lively s now None owner ask = tt
authorize_lively s now (Some draw) owner ask =
    client_lively s (client_of s.tables ask) (on_grants.grant_to s.tables now (draw_text draw) owner ask.state) (grant_lively s now (draw_text draw) owner ask.state)

refused_lively : (s : Hub) (token : Option ℕ) (r : Refusal) → Lively s (on_grants.refuses_without token r)
refused_lively s None r = tt
refused_lively s (Some token) r = tt

-- that the rows of a trade fit is shown elsewhere
given_lively : (s : Hub) (now : ℕ) (text : List ℕ) (told : Result (OAuthCode × Token) OAuthError) → Lively s (on_grants.by_trade told (on_grants.traded s.tables now text))
given_lively s now text (Ok given) =
    let over = expired_tokens s.tables now given.1.owner in
    lively_or s (first_refusal (if_so (is_without_room s.tables over) (Full 5 s.tables.limits.tokens) ∷ []))
    (rows_then (on_grants.trade_rows given.0 given.1 over) (on_grants.bearer text)) tt
given_lively s now text (Err e) = refused_lively s (on_grants.revoked e) (on_grants.refusal_of e)

trade_lively : (s : Hub) (now : ℕ) (draw : Option (List ℕ)) (ask : TradeAsk) → Lively s (on_grants.post_trade s now draw ask)
trade_lively s now None ask = tt
trade_lively s now (Some draw) ask = let text = draw_text draw in given_lively s now text (trade s.tables ask text (next_of s.tables (codes "token")) now)

row_lively : (s : Hub) (may : Rights) (inside : Inside) (now : ℕ) (draw : Option (List ℕ)) (k : Token) (call : Call) → AreLeased s → AreNumbered s.tables → next_generation s.tables < 2 ^ 63 → Lively s (row s may inside now draw k call)
row_lively s may inside now draw k (PostUsers names admin) l n m = lively_by_rules s (users.add_users s.tables names admin now) _
row_lively s may inside now draw k (PostUser user) l n m = lively_by_rules s (users.add_users s.tables (user ∷ []) false now) _
row_lively s may inside now draw k (PatchUser user admin) l n m = lively_by_rules s (users.set_admin s.tables user admin) (λ (x : Hub). spec.good 200 (user_at may x user))
row_lively s may inside now draw k (DeleteUser user) l n m = lively_by_rules s (users.delete_user s.tables user (has_live_server s.lives user)) _
row_lively s may inside now draw k (PostActivity user last told) l n m = lively_by_rules s (servers.note_activity s.tables user now last told) _
row_lively s may inside now draw k (PostServer server) l n m = start_lively s now draw server l n m
row_lively s may inside now draw k (DeleteServer server remove) l n m = lively_or s (first_refusal (if_so (remove && is_default server.server) (Rule (codes "default server")) ∷ []))
    (on_lease s server remove (lease_of s.lives server)) (stop_lively s server remove (lease_of s.lives server) l m refl)
row_lively s may inside now draw k (PostToken ask) l n m = token_lively s now draw inside ask
row_lively s may inside now draw k (AcceptCode user code) l n m = told_lively s (accept_code s.tables user code now) (on_shares.put_share s) (put_lively s)
row_lively s may inside now draw k (PostShare server to scopes) l n m = told_lively s (grant_share s.tables server to scopes now) (on_shares.put_share s) (put_lively s)
row_lively s may inside now draw k (PatchShare server to scopes) l n m =
    let kept = on_shares.share_with s.tables server to in
    told_lively s (revoke_share s.tables server to scopes) (on_shares.left_share kept) (λ left. lively_then s (on_shares.left_rows left kept) (spec.good 200 (on_shares.left_body left)))
row_lively s may inside now draw k (DeleteShares server) l n m = lively_then s (on_shares.removals (shares_of s.tables (Server server))) (spec.good 204 [])
row_lively s may inside now draw k (PostCode server scopes expires_in) l n m = code_lively s now draw server scopes expires_in
row_lively s may inside now draw k (DeleteCodes server id) l n m = lively_then s (on_codes.removals (on_codes.named_codes s.tables server id)) (spec.good 204 [])
row_lively s may inside now draw k (PostGroup group names) l n m = lively_by_rules s (groups.add_group s.tables group names) _
row_lively s may inside now draw k (DeleteGroup group) l n m = lively_by_rules s (groups.delete_group s.tables group) done
row_lively s may inside now draw k (JoinGroup group names) l n m = lively_by_rules s (groups.join_group s.tables group names) _
row_lively s may inside now draw k (LeaveGroup group names) l n m = lively_by_rules s (groups.leave_group s.tables group names) _
row_lively s may inside now draw k (PostService service) l n m = lively_by_rules s (services.add_service s.tables service) _
row_lively s may inside now draw k (DeleteService service) l n m = lively_by_rules s (services.delete_service s.tables service) done
row_lively s may inside now draw k (PutRole role scopes us gs vs) l n m = lively_by_rules s (roles.put_role s.tables (role_of role scopes us gs vs)) _
row_lively s may inside now draw k (DeleteRole role) l n m = lively_by_rules s (roles.delete_role s.tables role) _
row_lively s may inside now draw k (GetAuthorize ask) l n m = authorize_lively s now draw k.owner ask
row_lively s may inside now draw k (PostTrade ask) l n m = trade_lively s now draw ask
row_lively s may inside now draw k _ l n m = tt

frame_lively : (s : Hub) (j : Judgement) (now : ℕ) (draw : Option (List ℕ)) (call : Call) (k : Option Token) → AreLeased s → AreNumbered s.tables → next_generation s.tables < 2 ^ 63 → Lively s (by_token s j now draw call k)
frame_lively s j now draw call None l n m = tt
frame_lively s j now draw call (Some k) l n m =
    lively_or s (first_refusal (if_no_client s.tables call ∷ action_rules j (needs call))) (if_there s j.may j.inside now draw k call)
    (lively_or s (first_refusal (if_so (not (is_there s.tables call)) NotFound ∷ [])) (row s j.may j.inside now draw k call) (row_lively s j.may j.inside now draw k call l n m))

nobody_lively : (s : Hub) (now : ℕ) (draw : Option (List ℕ)) (call : Call) → Lively s (by_nobody s now draw call)
nobody_lively s now draw (PostTrade ask) = trade_lively s now draw ask
nobody_lively s now draw _ = tt

call_lively : (s : Hub) (j : Judgement) (now : ℕ) (draw : Option (List ℕ)) (call : Call) (k : Option Token) (b : Bool) → AreLeased s → AreNumbered s.tables → next_generation s.tables < 2 ^ 63
    → Lively s (cond b (by_token s j now draw call k) (by_nobody s now draw call))
call_lively s j now draw call k true l n m = frame_lively s j now draw call k l n m
call_lively s j now draw call k false l n m = nobody_lively s now draw call

-- ---- room

-- the history has room for the change
abbrev HasRoom : Hub → Answer → Type 0
HasRoom s r = (c : Change) → change_of r ≡ Some c → is_past_trail s c ≡ false

none_some : (c : Change) → None ≡ Some c → ⊥
none_some c h = cc

same_some : (c d : Change) → Some c ≡ Some d → c ≡ d
same_some c d h = cc

-- an answer with this change, where the history has room
passed : (s : Hub) (r : Answer) (c : Change) (b : Bool) → change_of r ≡ Some c → is_past_trail s c ≡ b → Lively s r
    → HasRoom s (cond b (refuses TrailFull) r) × Lively s (cond b (refuses TrailFull) r)
passed s r c true has past h = (λ d e. absurd (none_some d e), tt)
passed s r c false has past h = (λ d e. ap (is_past_trail s) (same_some d c (sym e ∙ has)) ∙ past, h)

trail_lively : (s : Hub) (r : Answer) → Lively s r → HasRoom s (in_trail s r) × Lively s (in_trail s r)
trail_lively s (refuses x) h = (λ d e. absurd (none_some d e), tt)
trail_lively s (refuses_with c x) h = passed s (refuses_with c x) c (is_past_trail s c) refl refl h
trail_lively s (gives g) h = (λ d e. absurd (none_some d e), tt)
trail_lively s (changes c g) h = passed s (changes c g) c (is_past_trail s c) refl refl h
trail_lively s (works c w) h = passed s (works c w) c (is_past_trail s c) refl refl h

room_or : (s : Hub) (o : Option Refusal) (r : Answer) → HasRoom s r × Lively s r → HasRoom s (or_refusal r o) × Lively s (or_refusal r o)
room_or s None r h = h
room_or s (Some x) r h = (λ d e. absurd (none_some d e), tt)

answer_lively : (s : Hub) (now : ℕ) (draw : Option (List ℕ)) (asked : Asked) (r : Answer) → AreLeased s → AreNumbered s.tables → next_generation s.tables < 2 ^ 63 → Answers s now draw asked r → HasRoom s r × Lively s r
answer_lively s now draw asked r l n m a =
    let by : Answer = by_call s a.judgement now draw (caller s now asked) asked.call in
    subst (λ (x : Answer). HasRoom s x × Lively s x) (sym a.is)
    (room_or s (first_refusal (if_so (is_past s.length asked.seen) (SeenPast (named asked.seen) s.length) ∷ [])) (in_trail s by)
    (trail_lively s by (call_lively s a.judgement now draw asked.call (caller s now asked) (needs_token asked.call) l n m)))

-- ---- the whole

-- what is shown of an answer by its rows, and by its start or stop
fits : (s : Hub) (ch : Option Change) → ((rows : List RowChange) → ch ≡ Some (Of.Rows rows) → (list_any puts_hashed rows ≡ false) × (list_any touches_lives rows ≡ false)) → IsLively s ch
    → (c : Change) → ch ≡ Some c → FitsIn s c
fits s None calm lively c e = absurd (none_some c e)
fits s (Some (Of.Rows rows)) calm lively c e =
    let both = calm rows refl in
    subst (FitsIn s) (same_some _ c e) (record { puts = plain_fit rows s.tables both.0; apart = both.1 })
fits s (Some (Of.Begin g server rows)) calm lively c e = subst (FitsIn s) (same_some _ c e) lively.0
fits s (Some (Of.Life g event)) calm lively c e = subst (FitsIn s) (same_some _ c e) lively

may_by : (s : Hub) (ch : Option Change) → ((c : Change) → ch ≡ Some c → is_past_trail s c ≡ false) → ((c : Change) → ch ≡ Some c → FitsIn s c) → MayBeDone s ch
may_by s None room fit = tt
may_by s (Some c) room fit = (room c refl, fit c refl)

-- the rows of a change of rows alone pass no such test
calm_rows : (test : RowChange → Bool) (r : Answer) → Calm test r → (rows : List RowChange) → change_of r ≡ Some (Of.Rows rows) → list_any test rows ≡ false
calm_rows test (refuses x) h rows e = absurd (none_some _ e)
calm_rows test (refuses_with c x) h rows e = subst (λ (c : Change). CalmIn test c) (same_some c (Of.Rows rows) e) h
calm_rows test (gives g) h rows e = absurd (none_some _ e)
calm_rows test (changes c g) h rows e = subst (λ (c : Change). CalmIn test c) (same_some c (Of.Rows rows) e) h
calm_rows test (works c w) h rows e = subst (λ (c : Change). CalmIn test c) (same_some c (Of.Rows rows) e) h

pub may_be_done : (s : Hub) (now : ℕ) (draw : Option (List ℕ)) (asked : Asked) (r : Answer) → AreLeased s → AreNumbered s.tables → next_generation s.tables < 2 ^ 63 → Answers s now draw asked r → MayBeDone s (change_of r)
may_be_done s now draw asked r l n m a = may_by s (change_of r) shown.0 (by (issues asked.call) refl)
  where
    shown : HasRoom s r × Lively s r
    shown = answer_lively s now draw asked r l n m a

    by : (b : Bool) → issues asked.call ≡ b → (c : Change) → change_of r ≡ Some c → FitsIn s c
    by true new c e = (answer_issued s now draw asked r n new a c e).0
    by false old c e =
        let hashed = calm_answer puts_hashed none_hashed s now draw asked r old a in
        let lives = calm_answer touches_lives none_lives s now draw asked r old a in
        fits s (change_of r) (λ rows e. (calm_rows puts_hashed r hashed rows e, calm_rows touches_lives r lives rows e)) (lively_change s r shown.1) c e

numbered_by : (s : Hub) (ch : Option Change) → ((rows : List RowChange) → ch ≡ Some (Of.Rows rows) → list_any numbers rows ≡ false) → IsLively s ch → NumbersIn s.tables ch
numbered_by s None calm lively = tt
numbered_by s (Some (Of.Rows rows)) calm lively = numbers_tokens rows s.tables (calm rows refl)
numbered_by s (Some (Of.Begin g server rows)) calm lively = lively.1
numbered_by s (Some (Of.Life g event)) calm lively = numbers_tokens [] s.tables refl

numbered_issue : (s : Hub) (ch : Option Change) → ((c : Change) → ch ≡ Some c → NumbersTokens (rows_of c) s.tables) → NumbersIn s.tables ch
numbered_issue s None h = tt
numbered_issue s (Some c) h = h c refl

-- each token that an answer's change puts is new
pub answer_numbers : (s : Hub) (now : ℕ) (draw : Option (List ℕ)) (asked : Asked) (r : Answer) → AreLeased s → AreNumbered s.tables → next_generation s.tables < 2 ^ 63 → Answers s now draw asked r → NumbersIn s.tables (change_of r)
answer_numbers s now draw asked r l n m a = by (issues asked.call) refl
  where
    by : (b : Bool) → issues asked.call ≡ b → NumbersIn s.tables (change_of r)
    by true new = numbered_issue s (change_of r) (λ c e. (answer_issued s now draw asked r n new a c e).1)
    by false old =
        numbered_by s (change_of r) (λ rows e. calm_rows numbers r (calm_answer numbers none_numbered s now draw asked r old a) rows e)
        (lively_change s r (answer_lively s now draw asked r l n m a).1)

-- ---- work that is given can be done

sound_answer : (s : Hub) (r : Answer) (n : ℕ) (o : Outcome) → Lively s r → outcome_view o ≡ outcome_of n r → IsSoundOutcome o
sound_answer s (works c w) n (given.Work v) h e = subst IsSound (sym (same_work v w e)) h.1
  where
    same_work : (x y : Work) → (let a : spec.Outcome = spec.working x in let b : spec.Outcome = spec.working y in a ≡ b) → x ≡ y
    same_work x y e = cc
sound_answer s (refuses x) n (given.Work v) h e = cc e
sound_answer s (refuses_with c x) n (given.Work v) h e = cc e
sound_answer s (gives g) n (given.Work v) h e = cc e
sound_answer s (changes c g) n (given.Work v) h e = cc e
sound_answer s r n (given.Answer x) h e = tt

works_sound : (s : Hub) (now : ℕ) (draw : Option (List ℕ)) (asked : Asked) (r : Answer) (n : ℕ) (o : Outcome) → AreLeased s → AreNumbered s.tables → next_generation s.tables < 2 ^ 63
    → Answers s now draw asked r → outcome_view o ≡ outcome_of n r → IsSoundOutcome o
works_sound s now draw asked r n o l k m a e = sound_answer s r n o (answer_lively s now draw asked r l k m a).1 e

-- a keeper's refusal owes nothing
fault_sound : (n : ℕ) (o : Outcome) → outcome_view o ≡ spec.answered (refusal_reply n KeeperFault) → IsSoundOutcome o
fault_sound n (given.Answer x) e = tt
fault_sound n (given.Work v) e = cc e

pub sound_carried : {E : Type 0} (now : ℕ) (draw : Option (List ℕ)) (asked : Asked) (a : Answer) (r : Result Outcome E) (b b' : Carrier) → AreLeased b.hub → AreNumbered b.hub.tables
    → next_generation b.hub.tables < 2 ^ 63 → Answers b.hub now draw asked a → Carried (change_of a) (says_of a b.hub) r b b' → IfOk r IsSoundOutcome
sound_carried now draw asked a (Ok o) b b' l n m answers carried = elim carried as (λ _. IsSoundOutcome o) [
  | inl d ↦ works_sound b.hub now draw asked a (long_after (change_of a) b.hub.length) o l n m answers d.said
  | inr u ↦ fault_sound b.hub.length o u.said
]
sound_carried now draw asked a (Err e) b b' l n m answers carried = tt
