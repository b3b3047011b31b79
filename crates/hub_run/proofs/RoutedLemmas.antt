-- A call that its visit lets ask the route link, and what comes of it.
use Rattle.std.proofs.Common.{◌≡◌, ◌≢◌, ◌≤◌, ◌+◌, inl, inr, ◌||◌, ℕ, Bool, true, List, [], ◌∷◌, ◌++◌, length, map, take, Option, Some, None, Result, Ok, Err, Vec, Global, refl, sym, ap, ◌∙◌, subst, arith}
use Rattle.std.specs.Prelude.{IfOk}
use Rattle.std.proofs.lemmas.List.{append-nil, map-append, take_all}
use Rattle.desk.specs.Passes.{PassState, IsSamePass}
use Rattle.http_wire.specs.declared.request.Request.{Request}
use Rattle.http_wire.specs.Request.{IsRequestText}
use Rattle.hub_devices.specs.Calls.{Grows, is_fault, told_error}
use Rattle.hub_devices.specs.Faults.{Rises}
use Rattle.hub_devices.specs.declared.calls.ListedRoute.{ListedRoute}
use Rattle.hub_devices.specs.declared.calls.Routing.{Routing}
use Rattle.hub_devices.specs.declared.calls.Routing.TheVariants as Route
use Rattle.hub_devices.specs.declared.calls.Told.{Told}
use Rattle.hub_devices.specs.declared.link_error.LinkError.{LinkError}
use Rattle.hub_devices.specs.declared.link_error.LinkError.TheVariants as Link
use Rattle.hub_view.specs.Body.{body_tokens, members}
use Rattle.hub_view.specs.Json.{Member, pairs}
use Rattle.hub_view.specs.declared.body.Body.{Body}
use Rattle.hub_view.specs.declared.body.Body.TheVariants.{Pairs}
use Rattle.hub_view.proofs.Tokens.{tokens_of_pairs}
use Rattle.hub_api.specs.Calls.{call_read}
use Rattle.hub_core.specs.Visits.{Entry}
use Rattle.hub_core.specs.declared.start.Start.{Start}
use Rattle.hub_machine.specs.Answers.{outcome_view, reply_view}
use Rattle.hub_machine.specs.Replies.{Reply, Answer, answered, working, outcome_of, refusal_reply, refuses, refuses_with, gives, changes, works}
use Rattle.hub_machine.specs.State.{Hub}
use Rattle.hub_machine.specs.declared.call.Asked.{Asked}
use Rattle.hub_machine.specs.declared.call.Call.{Call}
use Rattle.hub_machine.specs.declared.refusal.Refusal.TheVariants.{KeeperFault, ProxyFault}
use Rattle.hub_machine.specs.declared.reply.Outcome.{Outcome}
use Rattle.hub_machine.specs.declared.reply.Outcome.TheVariants as given
use Rattle.hub_machine.specs.declared.reply.Reply as replies
use Rattle.hub_machine.specs.declared.work.Work.{Work}
use Rattle.hub_sync.specs.Plans.{IsPlanFor}
use Rattle.hub_sync.specs.Syncing.{SyncTold}
use Rattle.hub_sync.specs.declared.calls.RouteCall.{RouteCall}
use Rattle.hub_sync.specs.declared.calls.Synced.{Synced}
use Rattle.hub_sync.specs.declared.calls.SyncFault.{SyncFault}
use Rattle.hub_sync.specs.declared.calls.SyncFault.TheVariants as Fault
use Rattle.server_work.specs.Chains.{sight, Comes}
use Rattle.reply_texts.specs.ReplyText.{reply_text}
use Rattle.hub_run.specs.Complete.{IsOfFault}
use Rattle.hub_run.specs.Routed.{Asking, IsSaidOf, has_failed, lets, lets_by, listing, proxy_fault, route_body, routes_body, syncing, told_list, told_of, way_of}
use Rattle.hub_run.specs.Steps.{Asks, GoesOn, Made, Says, SaysAsked, SaysMade}
use Rattle.hub_run.specs.Turns.{AsksLink, IsGiven, IsLet, IsRouted, Routes, View, Visit, Visits, routed, unrouted}
use Rattle.hub_run.specs.declared.routed.Way.{Way}
use Rattle.hub_run.specs.declared.routed.Way.TheVariants as Ways
use Rattle.hub_run.proofs.AnswerLemmas.{replied}

-- ---- a turn

routed_by : (start : Start) (x z y : View) (request : Request) (text : List ℕ) (v : Visit) (a : Asking) (last : Bool) (said : List ℕ) (closed : Bool)
    → IsRequestText request text → (let_by : IsLet start request v a) → Visits x v z → AsksLink z a y → SaysAsked let_by.gave a (request.close || last) said closed
    → Made start x y text last said closed
routed_by start x z y request text v a last said closed is let_by visits asks (inl (q, reply, text_is, closed_is)) = (
  routed text request v a q,
  (λ left rest. ((is, record { let_by = let_by; reply = reply }), refl)),
  (z, visits, asks),
  closed_is,
  text_is ∙ ap (λ c. reply_text q c) (sym closed_is),
)
routed_by start x z y request text v a last said closed is let_by visits asks (inr (text_is, closed_is)) =
    (unrouted text request v a, (λ left rest. (is, let_by, refl)), (z, visits, asks), closed_is, text_is)

by_way : (start : Start) (x z y : View) (request : Request) (text : List ℕ) (asked : Asked) (o : Outcome) (r : Reply) (way : Option Way) (last : Bool) (said : List ℕ) (closed : Bool)
    → IsRequestText request text → call_read request ≡ Ok asked → outcome_view o ≡ answered r → Asks start x z asked (Ok o) → lets asked.call r ≡ way
    → GoesOn z y way r (request.close || last) said closed → Made start x y text last said closed
by_way start x z y request text asked o r None last said closed is read view asks goes (same, says) =
    subst (λ (w : View). Made start x w text last said closed) (sym same)
    (replied start x z request text asked o asks.0 r last said closed is read view goes asks.2 asks.1 asks.3 says)
by_way start x z y request text asked o r (Some way) last said closed is read view asks goes (a, of, link, says) =
    routed_by start x z y request text asks.0 a last said closed is
    (record { asked = asked; outcome = o; read = read; drawn = asks.2; given = asks.3; gave = r; said = view; way = way; goes = goes; asks = of })
    asks.1 link says

-- the visit gave a reply, which may let the call go on
pub made_answered : (start : Start) (x z y : View) (request : Request) (text : List ℕ) (asked : Asked) (o : Outcome) (r : replies.Reply) (way : Option Way)
    (close last : Bool) (said : List ℕ) (closed : Bool)
    → IsRequestText request text → call_read request ≡ Ok asked → close ≡ (request.close || last) → way ≡ way_of asked.call → o ≡ given.Answer r → Asks start x z asked (Ok o)
    → GoesOn z y (lets_by way (reply_view r)) (reply_view r) close said closed → Made start x y text last said closed
made_answered start x z y request text asked o r way close last said closed is read close_is way_is o_is asks goes =
    by_way start x z y request text asked o (reply_view r) (lets asked.call (reply_view r)) last said closed is read (ap outcome_view o_is) asks refl
    (subst (λ (w : Option Way). GoesOn z y (lets_by w (reply_view r)) (reply_view r) (request.close || last) said closed) way_is
    (subst (λ (c : Bool). GoesOn z y (lets_by way (reply_view r)) (reply_view r) c said closed) close_is goes))

-- ---- what is said

-- a reply that was made is one of what came
pub says_made : {E : Type 0} (r : Reply) (a : Asking) (made : Result replies.Reply E) (close : Bool) (text : List ℕ) (closed : Bool)
    → IfOk made (λ (q : replies.Reply). IsSaidOf r a (reply_view q)) → SaysMade made close text closed → SaysAsked r a close text closed
says_made r a (Ok q) close text closed of (inl (text_is, closed_is)) = inl (reply_view q, of, text_is, closed_is)
says_made r a (Ok q) close text closed of (inr none) = inr none
says_made r a (Err e) close text closed of none = inr none

-- ---- routes as a body

-- a route with its path
abbrev pub shown_route : ListedRoute → Member
shown_route r = (r.path, route_body r)

-- one route more was added
pub one_shown : (routes : List ListedRoute) (i : ℕ) (r : ListedRoute) (before after : List (List ℕ × Body)) (path : List ℕ) (b : Body)
    → take (i + 1) routes ≡ take i routes ++ r ∷ [] → members before ≡ map shown_route (take i routes) → path ≡ r.path → body_tokens b ≡ route_body r
    → members after ≡ members before ++ (path, body_tokens b) ∷ [] → members after ≡ map shown_route (take (i + 1) routes)
one_shown routes i r before after path b at so_far same is added =
    added
    ∙ ap (λ (ms : List Member). ms ++ (path, body_tokens b) ∷ []) so_far
    ∙ (λ k. map shown_route (take i routes) ++ (same k, is k) ∷ [])
    ∙ sym (ap (map shown_route) at ∙ map-append shown_route (take i routes) (r ∷ []))

-- all were
pub all_shown : (routes : List ListedRoute) (i : ℕ) (fields : Vec (List ℕ × Body) Global) → length routes ≤ i → members fields.items ≡ map shown_route (take i routes)
    → body_tokens (Pairs fields) ≡ routes_body routes
all_shown routes i fields past so_far =
    tokens_of_pairs fields ∙ ap pairs so_far ∙ ap (λ (rs : List ListedRoute). pairs (map shown_route rs)) (take_all i routes past)

-- ---- the link

stays : (p : PassState Entry Start) → Comes p.alone (sight p) (sight p)
stays p = (([], append-nil p.seen), omega arith, λ alone. refl)

-- the list was asked for, and nothing else
pub list_asked : (x y : View) (came : Result (List ListedRoute) LinkError) → y.pass ≡ x.pass → y.clock ≡ x.clock → y.draws ≡ x.draws → y.spawner ≡ x.spawner
    → (y.faults.random ≡ x.faults.random) × (y.faults.spawner ≡ x.faults.spawner) → Grows x.routes (told_of (listing came)) y.routes → x.faults.routes ≤ y.faults.routes
    → (is_fault came ≡ true → Rises x.faults.routes y.faults.routes) → AsksLink x (listing came) y
list_asked x y came pass clock draws spawner others grows counted cause = record {
  same = subst (λ (p : PassState Entry Start). IsSamePass x.pass p) (sym pass) (refl, refl, refl);
  mine = ap (λ (p : PassState Entry Start). p.mine) pass;
  failed = ap (λ (p : PassState Entry Start). p.failed) pass;
  comes = subst (λ (p : PassState Entry Start). Comes x.pass.alone (sight x.pass) (sight p)) (sym pass) (stays x.pass);
  planned = λ start base. tt;
  clock = clock;
  draws = draws;
  spawner = spawner;
  routes = grows;
  others = others;
  counted = counted;
  cause = by came cause;
}
  where
    by : (c : Result (List ListedRoute) LinkError) → (is_fault c ≡ true → Rises x.faults.routes y.faults.routes) → has_failed (listing c) ≡ true → Rises x.faults.routes y.faults.routes
    by (Ok routes) h e = absurd (cc)
    by (Err Link.Failed) h e = h refl
    by (Err Link.Memory) h e = absurd (cc)

-- the list failed
pub failed_list : (a b : Option (List (Routing × Told))) (e : LinkError) → e ≡ Link.Failed → Grows a ((Route.List, told_error e) ∷ []) b
    → Grows a ((Route.List, told_list (Err Link.Failed)) ∷ []) b
failed_list a b e is grows = subst (λ (f : LinkError). Grows a ((Route.List, told_error f) ∷ []) b) is grows

-- or found no memory
pub lost_list : (a b : Option (List (Routing × Told))) (e : LinkError) → e ≡ Link.Memory → Grows a ((Route.List, told_error e) ∷ []) b
    → Grows a ((Route.List, told_list (Err Link.Memory)) ∷ []) b
lost_list a b e is grows = subst (λ (f : LinkError). Grows a ((Route.List, told_error f) ∷ []) b) is grows

-- how bringing into step has failed
pub sync_ended : (plans : List ListedRoute → List RouteCall → Type 0) (a b : Option (List (Routing × Told))) (e f : SyncFault) → e ≡ f
    → (told : List (Routing × Told)) × Grows a told b × SyncTold plans told (Err e) → (told : List (Routing × Told)) × Grows a told b × SyncTold plans told (Err f)
sync_ended plans a b e f is found = subst (λ (g : SyncFault). (told : List (Routing × Told)) × Grows a told b × SyncTold plans told (Err g)) is found

same_start : (base : Option Start) (found start : Start) → base ≡ Some found → base ≡ Some start → found ≡ start
same_start base found start first second = cc

-- it was asked to come into step, and nothing else
pub sync_asked : (start : Start) (x y : View) (told : List (Routing × Told)) (end : Result Synced SyncFault) → x.pass.base ≡ Some start → IsSamePass x.pass y.pass
    → y.pass.mine ≡ x.pass.mine → y.pass.failed ≡ x.pass.failed → Comes x.pass.alone (sight x.pass) (sight y.pass) → y.clock ≡ x.clock → y.draws ≡ x.draws → y.spawner ≡ x.spawner
    → (y.faults.random ≡ x.faults.random) × (y.faults.spawner ≡ x.faults.spawner) → Grows x.routes told y.routes
    → SyncTold (IsPlanFor start y.pass.seen (λ (s : Hub). s.hub_url)) told end → x.faults.routes ≤ y.faults.routes
    → (end ≡ Err Fault.Routes → Rises x.faults.routes y.faults.routes) → AsksLink x (syncing told end) y
sync_asked start x y told end base same mine failed comes clock draws spawner others grows plan counted cause = record {
  same = same;
  mine = mine;
  failed = failed;
  comes = comes;
  planned = λ other found. subst (λ (s : Start). SyncTold (IsPlanFor s y.pass.seen (λ (h : Hub). h.hub_url)) told end) (same_start x.pass.base start other base found) plan;
  clock = clock;
  draws = draws;
  spawner = spawner;
  routes = grows;
  others = others;
  counted = counted;
  cause = by end cause;
}
  where
    by : (e : Result Synced SyncFault) → (e ≡ Err Fault.Routes → Rises x.faults.routes y.faults.routes) → has_failed (syncing told e) ≡ true → Rises x.faults.routes y.faults.routes
    by (Ok s) h is = absurd (cc)
    by (Err Fault.Routes) h is = h refl
    by (Err Fault.Memory) h is = absurd (cc)

-- a reply that lets the call go on so, and one that doesn't
pub goes_list : (x y : View) (way : Option Way) (w : Way) (r : Reply) (came : Result (List ListedRoute) LinkError) (close : Bool) (text : List ℕ) (closed : Bool) → way ≡ Some w → w ≡ Ways.List
    → AsksLink x (listing came) y → SaysAsked r (listing came) close text closed → GoesOn x y way r close text closed
goes_list x y way w r came close text closed is is_list link says =
    subst (λ (o : Option Way). GoesOn x y o r close text closed) (sym (is ∙ ap Some is_list)) (listing came, tt, link, says)

pub goes_sync : (x y : View) (way : Option Way) (w : Way) (r : Reply) (told : List (Routing × Told)) (end : Result Synced SyncFault) (close : Bool) (text : List ℕ) (closed : Bool) → way ≡ Some w
    → w ≡ Ways.Sync → AsksLink x (syncing told end) y → SaysAsked r (syncing told end) close text closed → GoesOn x y way r close text closed
goes_sync x y way w r told end close text closed is is_sync link says =
    subst (λ (o : Option Way). GoesOn x y o r close text closed) (sym (is ∙ ap Some is_sync)) (syncing told end, tt, link, says)

pub goes_nowhere : (x : View) (way : Option Way) (r : Reply) (close : Bool) (text : List ℕ) (closed : Bool) → way ≡ None → Says r close text closed → GoesOn x x way r close text closed
goes_nowhere x way r close text closed is says = subst (λ (o : Option Way). GoesOn x x o r close text closed) (sym is) (refl, says)

-- ---- what is known of the visit's reply

none_way : (way : Way) → None ≡ Some way → ⊥
none_way way e = cc

same_reply : (a b : Reply) → answered a ≡ answered b → a ≡ b
same_reply a b e = cc

no_work : (w : Work) (r : Reply) → working w ≡ answered r → ⊥
no_work w r e = cc

-- a keeper's refusal lets no call go on
pub keeper_stops : (call : Call) (n : ℕ) (r : Reply) (way : Way) → r ≡ refusal_reply n KeeperFault → lets call r ≡ Some way → ⊥
keeper_stops call n r way is goes = none_way way (sym (ap (lets call) is) ∙ goes)

-- the reply of an answer has its revision
has_revision : (n : ℕ) (a : Answer) (r : Reply) → outcome_of n a ≡ answered r → r.revision ≡ Some n
has_revision n (refuses x) r is = ap (λ (q : Reply). q.revision) (sym (same_reply _ r is))
has_revision n (refuses_with c x) r is = ap (λ (q : Reply). q.revision) (sym (same_reply _ r is))
has_revision n (gives g) r is = ap (λ (q : Reply). q.revision) (sym (same_reply _ r is))
has_revision n (changes c g) r is = ap (λ (q : Reply). q.revision) (sym (same_reply _ r is))
has_revision n (works c w) r is = absurd (no_work w r is)

given_revision : (start : Start) (v : Visit) (asked : Asked) (o : Outcome) (r : Reply) → outcome_view o ≡ answered r → IsGiven start v asked o → r.revision ≡ Some (length v.after)
given_revision start v asked o r view (inl at) = has_revision (length v.after) at.answer r (sym at.outcome ∙ view)
given_revision start v asked o r view (inr at) = ap (λ (q : Reply). q.revision) (sym (same_reply _ r (sym at.outcome ∙ view)))

-- ---- a 503

fine : ◌≢◌ {A = ℕ} 200 503
fine = λ e. absurd (omega (arith, e))

-- the reply of a fault, with a revision
fault_at : (r q : Reply) (n : ℕ) → r.revision ≡ Some n → q ≡ proxy_fault r → q ≡ refusal_reply n ProxyFault
fault_at r q n has is = is ∙ ap (λ (k : Option ℕ). record (refusal_reply 0 ProxyFault) { revision = k }) has

not_503 : (q p : Reply) → q ≡ p → p.status ≡ 200 → q.status ≡ 503 → ⊥
not_503 q p is status bad = fine (sym status ∙ (ap (λ (r : Reply). r.status) (sym is) ∙ bad))

pub routed_503 : (start : Start) (x y : View) (request : Request) (v : Visit) (a : Asking) (r : Reply)
    → IsRouted start request v a r → Routes x v a y → r.status ≡ 503 → IsOfFault x y r
routed_503 start x y request v a r done (z, visits, link) is = by a done.let_by.gave (given_revision start v done.let_by.asked done.let_by.outcome done.let_by.gave done.let_by.said done.let_by.given) done.reply link.cause
  where
    risen : Rises z.faults.routes y.faults.routes → Rises x.faults.routes y.faults.routes
    risen up = subst (λ (n : ℕ). Rises n y.faults.routes) visits.others.1 up

    by : (a : Asking) (gave : Reply) → gave.revision ≡ Some (length v.after) → IsSaidOf gave a r → (has_failed a ≡ true → Rises z.faults.routes y.faults.routes) → IsOfFault x y r
    by (listing (Ok routes)) gave has (shown, lists, said) cause = absurd (not_503 r _ said refl is)
    by (listing (Err Link.Failed)) gave has said cause = record { revision = length v.after; cause = ProxyFault; is = fault_at gave r (length v.after) has said; failed = risen (cause refl) }
    by (listing (Err Link.Memory)) gave has said cause = absurd said
    by (syncing told (Ok s)) gave has said cause = absurd (not_503 r _ said refl is)
    by (syncing told (Err Fault.Routes)) gave has said cause = record { revision = length v.after; cause = ProxyFault; is = fault_at gave r (length v.after) has said; failed = risen (cause refl) }
    by (syncing told (Err Fault.Memory)) gave has said cause = absurd said
