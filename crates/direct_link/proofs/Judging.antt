-- What the hub's reply to an ask for access says of the state that it was answered in.
use Rattle.std.proofs.Common.{◌≡◌, ◌↔◌, ◌⊎◌, ◌<◌, ◌^◌, ◌==◌, if◌then◌else◌, inl, inr, ℕ, Bool, true, false, IsTrue, List, length, Option, Some, None, Result, Ok, Err, refl, sym, ap, ◌∙◌, subst}
use Rattle.std.specs.FinMap.{get}
use Rattle.std.specs.Str.{is_utf8}
use mathlib.Core.List.{IsPrefix}
use Rattle.json.specs.Print.{print}
use Rattle.http_wire.specs.declared.request.Request.{Request}
use Rattle.guard.specs.Access.{access_in, access_said, access_by, IsAccessOf}
use Rattle.guard.specs.declared.access.Access.{Access}
use Rattle.guard.specs.declared.access.Access.TheVariants.{Yes, No, NoToken, BadReply}
use Rattle.access_laws.specs.Bodies.{UsersBodySays, ServicesBodySays, NothingSays}
use Rattle.hub_api.specs.Calls.{call_read}
use Rattle.hub_api.specs.declared.refusal.ApiRefusal.{ApiRefusal}
use Rattle.hub_calls.specs.UserCalls.{identity, identity_of_user}
use Rattle.hub_core.specs.Answer.{good_token, by_token, Judgement}
use Rattle.hub_core.specs.History.{Answers, change_of}
use Rattle.hub_core.specs.Judged.{JudgesCaller, JudgesToken}
use Rattle.hub_core.specs.Visits.{Entry, Reached}
use Rattle.hub_core.specs.declared.start.Start.{Start}
use Rattle.hub_kit.specs.declared.names.ServerKey.{ServerKey}
use Rattle.hub_link.specs.Replies.{IsReply, IsNoReply}
use Rattle.hub_machine.specs.Replies.{Answer, Reply, refuses, refuses_with, gives, changes, works, good_reply, refusal_reply, refusal_body, answered, working, outcome_of}
use Rattle.hub_machine.specs.Replies as replies
use Rattle.hub_machine.specs.State.{Hub}
use Rattle.hub_machine.specs.Trails.{in_trail}
use Rattle.hub_machine.specs.declared.call.Asked.{Asked}
use Rattle.hub_machine.specs.declared.call.Call.{Call}
use Rattle.hub_machine.specs.declared.call.Call.TheVariants.{GetIdentity}
use Rattle.hub_machine.specs.declared.change.Change.{Change}
use Rattle.hub_machine.specs.declared.refusal.Refusal.TheVariants.{NoValidToken}
use Rattle.hub_calls.specs.Facts.{facts_of}
use Rattle.hub_rows.specs.declared.records.Token.{Token}
use Rattle.hub_rows.specs.declared.records.User.{User}
use Rattle.hub_tables.specs.Lookups.{roles_naming_service}
use Rattle.hub_view.specs.Fields.{Rights, user_identity, service_identity}
use Rattle.hub_view.specs.Json.{Json, nothing}
use Rattle.roles.specs.Rights.{IsAllowed}
use Rattle.scope_filters.specs.declared.holder.Owner.{Owner}
use Rattle.scope_filters.specs.declared.holder.Owner.TheVariants as Own
use Rattle.scope_filters.specs.declared.object.Object.TheVariants as Ob
use Rattle.scope_names.specs.declared.action.Action.TheVariants.{AccessServers}
use Rattle.hub_machine.specs.declared.work.Work.{Work}
use Rattle.hub_machine.specs.Draws.{draws}
use Rattle.hub_run.specs.Routed.{way_of, lets, lets_by}
use Rattle.hub_run.specs.Turns.{Turn, View, Visit, Visits, Errand, Moves, IsRight, IsAnswered, IsSent, IsLet, IsGiven, turn_text, visited, worked, declined, undrawn, refused, unsaid, unfinished, wanting, routed, unrouted}
use Rattle.hub_run.specs.declared.routed.Way.{Way}
use Rattle.hub_run.specs.Complete.{IsOf}
use Rattle.reply_texts.specs.ReplyText.{reply_text, has_body}
use Rattle.direct_link.specs.Answered.{IsTurnOf}
use Rattle.direct_link.specs.Verdicts.{HoldsAt, Admits, IsGone, IsMute, Judges}
use Rattle.direct_link.proofs.Replied.{short, read_as, reply_is, is_200, is_403}

abbrev pub ask : List ℕ → ServerKey → Asked
ask token server = record { token = Some token; seen = None; call = GetIdentity (Some server) }

-- ---- what is answered in a state

-- by the token that is good, if one is
abbrev pub Identified : Hub → ℕ → List ℕ → ServerKey → Option Token → Answer → Type 0
Identified s now token server None a = a ≡ refuses NoValidToken
Identified s now token server (Some k) a =
    (j : Judgement) × JudgesToken s.tables k (GetIdentity (Some server)) j × (a ≡ gives (replies.good 200 (identity j.may s k (Some server) k.owner)))

identified : (s : Hub) (now : ℕ) (draw : Option (List ℕ)) (token : List ℕ) (server : ServerKey) (a : Answer) → Answers s now draw (ask token server) a
    → (k : Option Token) × (good_token s.tables now (Some token) ≡ k) × Identified s now token server k a
identified s now draw token server a answers = by (good_token s.tables now (Some token)) refl
  where
    by : (k : Option Token) → good_token s.tables now (Some token) ≡ k
        → (k : Option Token) × (good_token s.tables now (Some token) ≡ k) × Identified s now token server k a
    by None is = (None, is, answers.is ∙ ap (λ (k : Option Token). in_trail s (by_token s answers.judgement now draw (GetIdentity (Some server)) k)) is)
    by (Some k) is =
        let there : Identified s now token server (Some k) a = (
          answers.judgement,
          subst (λ (o : Option Token). JudgesCaller s.tables (GetIdentity (Some server)) answers.judgement o) is answers.judged,
          answers.is ∙ ap (λ (k : Option Token). in_trail s (by_token s answers.judgement now draw (GetIdentity (Some server)) k)) is,
        ) in
        (Some k, is, there)

-- no change is made
unchanged : (s : Hub) (now : ℕ) (token : List ℕ) (server : ServerKey) (k : Option Token) (a : Answer) → Identified s now token server k a → change_of a ≡ None
unchanged s now token server None a is = ap change_of is
unchanged s now token server (Some k) a is = ap change_of is.2

-- ---- what a visit says

none_some : (c : Change) (o : Option Change) → o ≡ None → o ≡ Some c → ⊥
none_some c o one two = cc

same_ask : (a b : Asked) (r : Result Asked ApiRefusal) → r ≡ Ok a → r ≡ Ok b → a ≡ b
same_ask a b r one two = cc

-- no answer to the call has a change
abbrev pub ChangesNothing : Asked → Type 0
ChangesNothing asked = (s : Hub) (now : ℕ) (draw : Option (List ℕ)) (a : Answer) → Answers s now draw asked a → change_of a ≡ None

-- the state that was found, what it answers, and the reply
pub record Said (start : Start) (v : Visit) (asked : Asked) (r : Reply) : Type 0 where
  pub state : Hub
  pub reached : Reached start v.before state
  pub answer : Answer
  pub answers : Answers state v.moment v.draw asked answer
  pub is : answered r ≡ outcome_of (length v.after) answer

pub said_of : (start : Start) (q : Request) (v : Visit) (r : Reply) (asked : Asked) → call_read q ≡ Ok asked
    → ChangesNothing asked → IsAnswered start q v r → Said start v asked r
said_of start q v r asked read none is = by is.given
  where
    same : is.asked ≡ asked
    same = same_ask is.asked asked (call_read q) is.read read

    by : IsGiven start v is.asked is.outcome → Said start v asked r
    by (inl at) = record {
      state = at.state;
      reached = at.reached;
      answer = at.answer;
      answers = subst (λ (c : Asked). Answers at.state v.moment v.draw c at.answer) same at.answers;
      is = sym is.said ∙ at.outcome;
    }
    by (inr at) =
        absurd (none_some at.change (change_of at.answer)
        (none at.state v.moment v.draw at.answer (subst (λ (c : Asked). Answers at.state v.moment v.draw c at.answer) same at.answers)) at.has)

same_reply : (a b : Reply) → answered a ≡ answered b → a ≡ b
same_reply a b e = cc

never_works : (a : Answer) (n : ℕ) (w : Work) → change_of a ≡ None → working w ≡ outcome_of n a → ⊥
never_works (refuses r) n w none is = cc
never_works (refuses_with c r) n w none is = cc
never_works (gives g) n w none is = cc
never_works (changes c g) n w none is = cc
never_works (works c w') n w none is = cc

-- such a call is never sent out
not_sent : (start : Start) (q : Request) (v : Visit) (e : Errand) (asked : Asked) → call_read q ≡ Ok asked → ChangesNothing asked → IsSent start q v e → ⊥
not_sent start q v e asked read none is = by is.given
  where
    same : is.asked ≡ asked
    same = same_ask is.asked asked (call_read q) is.read read

    by : IsGiven start v is.asked is.outcome → ⊥
    by (inl at) =
        never_works at.answer (length v.after) is.work
        (none at.state v.moment v.draw at.answer (subst (λ (c : Asked). Answers at.state v.moment v.draw c at.answer) same at.answers))
        (sym is.gives ∙ at.outcome)
    by (inr at) =
        none_some at.change (change_of at.answer)
        (none at.state v.moment v.draw at.answer (subst (λ (c : Asked). Answers at.state v.moment v.draw c at.answer) same at.answers)) at.has

pub read_both : (r : Result Asked ApiRefusal) (a : Asked) (e : ApiRefusal) → r ≡ Ok a → r ≡ Err e → ⊥
read_both r a e one two = cc

no_way : (b : Bool) (w : Way) → (if b then None else None) ≡ Some w → ⊥
no_way true w e = cc
no_way false w e = cc

-- a call that doesn't ask the route link isn't let go on to it
pub not_let : (call : Call) (r : Reply) (w : Way) → way_of call ≡ None → lets call r ≡ Some w → ⊥
not_let call r w none goes = no_way (r.status == 200) w (ap (λ (o : Option Way). lets_by o r) (sym none) ∙ goes)

-- the visit of a turn, and its reply
pub record Visited (start : Start) (x : View) (asked : Asked) (bytes : List ℕ) (y : View) : Type 0 where
  pub visit : Visit
  pub reply : Reply
  pub visits : Visits x visit y
  pub said : Said start visit asked reply
  pub is : bytes ≡ reply_text reply true

pub read_of : (p q : Request) (asked : Asked) → p ≡ q → call_read q ≡ Ok asked → call_read p ≡ Ok asked
read_of p q asked same read = ap call_read same ∙ read

pub visit_of : (start : Start) (x y : View) (q : Request) (bytes : List ℕ) (asked : Asked) → call_read q ≡ Ok asked → draws asked.call ≡ false
    → ChangesNothing asked → way_of asked.call ≡ None → IsTurnOf start x q bytes y → Visited start x asked bytes y
visit_of start x y q bytes asked read undraws none apart turned = by turned.turn turned.of turned.right turned.moves turned.said
  where
    drawn_not : (b : Bool) → b ≡ false → b ≡ true → ⊥
    drawn_not b one two = cc

    by : (t : Turn) → IsOf q t → IsRight start t → Moves x t y → bytes ≡ turn_text t true → Visited start x asked bytes y
    by (visited text p v r) of right moves said = record {
      visit = v;
      reply = r;
      visits = moves;
      said = said_of start p v r asked (read_of p q asked of read) none right.1;
      is = said;
    }
    by (worked text p v e r) of right moves said = absurd (not_sent start p v e asked (read_of p q asked of read) none (right.1).sent)
    by (routed text p v a r) of right moves said =
        let asks : IsLet start p v a = (right.1).let_by in
        let same : asks.asked ≡ asked = same_ask asks.asked asked (call_read p) asks.read (read_of p q asked of read) in
        absurd (not_let asked.call asks.gave asks.way apart (subst (λ (c : Asked). lets c.call asks.gave ≡ Some asks.way) same asks.goes))
    by (declined text p e) of right moves said = absurd (read_both (call_read p) asked e (read_of p q asked of read) right.1)
    by (undrawn text p) of right moves said =
        let same : (right.1).asked ≡ asked = same_ask (right.1).asked asked (call_read p) (right.1).read (read_of p q asked of read) in
        absurd (drawn_not (draws asked.call) undraws (ap (λ (c : Asked). draws c.call) (sym same) ∙ (right.1).draws))
    by (refused e) of right moves said = absurd of
    by (unsaid text p v) of right moves said = absurd right
    by (unfinished text p v e) of right moves said = absurd right
    by (unrouted text p v a) of right moves said = absurd right
    by wanting of right moves said = absurd right

-- where it is seen
pub at_visit : (start : Start) (x y : View) (v : Visit) (s : Hub) (P : Hub → ℕ → Type 0) → Visits x v y → Reached start v.before s → P s v.moment → HoldsAt start x y P
at_visit start x y v s P visits reached holds = record {
  before = v.before;
  begins = visits.begins;
  whole = visits.whole;
  within = subst (λ (h : List Entry). IsPrefix v.before h) (sym visits.seen) visits.appends;
  now = v.moment;
  told = visits.told;
  state = s;
  reached = reached;
  holds = holds;
}

-- ---- what the reply says

none_some_token : (k : Token) (o : Option Token) → o ≡ None → o ≡ Some k → ⊥
none_some_token k o one two = cc

same_holder : (a b : Token) (o : Option Token) → o ≡ Some a → o ≡ Some b → a ≡ b
same_holder a b o one two = cc

not_true : (b : Bool) → b ≡ true → b ≡ false → ⊥
not_true b one two = cc

-- without a good token nobody is let in
kept_out : (s : Hub) (now : ℕ) (token : List ℕ) (server : ServerKey) → good_token s.tables now (Some token) ≡ None → Admits token server false s now
kept_out s now token server none = (
  λ is. absurd (not_true false is refl),
  λ enters. absurd (none_some_token enters.holder (good_token s.tables now (Some token)) none enters.good),
)

let_in : (s : Hub) (now : ℕ) (token : List ℕ) (server : ServerKey) (k : Token) (may admitted : Bool) → good_token s.tables now (Some token) ≡ Some k
    → (IsTrue may ↔ IsAllowed s.tables k AccessServers (Ob.Server server)) → admitted ≡ may → Admits token server admitted s now
let_in s now token server k may admitted good allowed is = (
  λ yes. record { holder = k; good = good; allowed = allowed.0 (sym is ∙ yes) },
  λ enters.
      let same : enters.holder ≡ k = same_holder enters.holder k (good_token s.tables now (Some token)) enters.good good in
      is ∙ allowed.1 (subst (λ (h : Token). IsAllowed s.tables h AccessServers (Ob.Server server)) same enters.allowed),
)

none_some_said : (said : Bool) (o : Option Bool) → o ≡ None → o ≡ Some said → ⊥
none_some_said said o one two = cc

said_is : (good may said : Bool) → (if good then Some may else None) ≡ Some said → said ≡ may
said_is true may said is = cc is
said_is false may said is = absurd (cc is)

no_text : (good may : Bool) → (if good then Some may else None) ≡ None → good ≡ false
no_text true may is = absurd (cc is)
no_text false may is = refl

module _ (users : UsersBodySays) (services : ServicesBodySays) (nothings : NothingSays) where
  -- the body says what the rights say
  of_user : (may : Rights) (s : Hub) (k : Token) (server : ServerKey) (found : Option User) (said : Bool)
      → access_in (print (identity_of_user may s k (Some server) found)) ≡ Some said → said ≡ may AccessServers (Ob.Server server)
  of_user may s k server None said is = absurd (none_some_said said (access_in (print nothing)) nothings is)
  of_user may s k server (Some u) said is =
      said_is (is_utf8 (print (user_identity may (facts_of s u) k.scopes (Some server)))) (may AccessServers (Ob.Server server)) said
      (sym (users may (facts_of s u) k.scopes server) ∙ is)

  of_owner : (may : Rights) (s : Hub) (k : Token) (server : ServerKey) (owner : Owner) (said : Bool)
      → access_in (print (identity may s k (Some server) owner)) ≡ Some said → said ≡ may AccessServers (Ob.Server server)
  of_owner may s k server (Own.User u) said is = of_user may s k server (get s.tables.users u) said is
  of_owner may s k server (Own.Service v) said is =
      said_is (is_utf8 (print (service_identity may v (roles_naming_service s.tables v) k.scopes (Some server)))) (may AccessServers (Ob.Server server)) said
      (sym (services may v (roles_naming_service s.tables v) k.scopes server) ∙ is)

  -- where it says nothing, there is no such user, or it is no text
  mute_user : (may : Rights) (s : Hub) (k : Token) (server : ServerKey) (found : Option User) → access_in (print (identity_of_user may s k (Some server) found)) ≡ None
      → (found ≡ None) ⊎ (is_utf8 (print (identity_of_user may s k (Some server) found)) ≡ false)
  mute_user may s k server None is = inl refl
  mute_user may s k server (Some u) is =
      inr (no_text (is_utf8 (print (user_identity may (facts_of s u) k.scopes (Some server)))) (may AccessServers (Ob.Server server))
      (sym (users may (facts_of s u) k.scopes server) ∙ is))

  mute_owner : (may : Rights) (s : Hub) (k : Token) (server : ServerKey) (owner : Owner) → access_in (print (identity may s k (Some server) owner)) ≡ None
      → IsGone s owner ⊎ (is_utf8 (print (identity may s k (Some server) owner)) ≡ false)
  mute_owner may s k server (Own.User u) is = mute_user may s k server (get s.tables.users u) is
  mute_owner may s k server (Own.Service v) is =
      inr (no_text (is_utf8 (print (service_identity may v (roles_naming_service s.tables v) k.scopes (Some server)))) (may AccessServers (Ob.Server server))
      (sym (services may v (roles_naming_service s.tables v) k.scopes server) ∙ is))

  has_user : (may : Rights) (s : Hub) (k : Token) (server : ServerKey) (found : Option User) → has_body (identity_of_user may s k (Some server) found) ≡ true
  has_user may s k server None = refl
  has_user may s k server (Some u) = refl

  has_owner : (may : Rights) (s : Hub) (k : Token) (server : ServerKey) (owner : Owner) → has_body (identity may s k (Some server) owner) ≡ true
  has_owner may s k server (Own.User u) = has_user may s k server (get s.tables.users u)
  has_owner may s k server (Own.Service v) = refl

  yes_of : (o : Option Bool) → Yes ≡ access_said o → o ≡ Some true
  yes_of None e = absurd (cc e)
  yes_of (Some true) e = refl
  yes_of (Some false) e = absurd (cc e)

  no_of : (o : Option Bool) → No ≡ access_said o → o ≡ Some false
  no_of None e = absurd (cc e)
  no_of (Some true) e = absurd (cc e)
  no_of (Some false) e = refl

  bad_of : (o : Option Bool) → BadReply ≡ access_said o → o ≡ None
  bad_of None e = refl
  bad_of (Some true) e = absurd (cc e)
  bad_of (Some false) e = absurd (cc e)

  no_token_of : (o : Option Bool) → NoToken ≡ access_said o → ⊥
  no_token_of None e = cc e
  no_token_of (Some true) e = cc e
  no_token_of (Some false) e = cc e

  module _ (start : Start) (x y : View) (v : Visit) (token : List ℕ) (server : ServerKey) (s : Hub) (visits : Visits x v y) (reached : Reached start v.before s) where
    out : good_token s.tables v.moment (Some token) ≡ None → (access : Access) → access ≡ NoToken → Judges start x y token server access
    out none Yes is = absurd (cc is)
    out none No is = absurd (cc is)
    out none NoToken is = at_visit start x y v s (Admits token server false) visits reached (kept_out s v.moment token server none)
    out none BadReply is = absurd (cc is)

    inside : (k : Token) (j : Judgement) → good_token s.tables v.moment (Some token) ≡ Some k → JudgesToken s.tables k (GetIdentity (Some server)) j
        → (access : Access) → access ≡ access_said (access_in (print (identity j.may s k (Some server) k.owner))) → Judges start x y token server access
    inside k j good judged Yes is =
        at_visit start x y v s (Admits token server true) visits reached
        (let_in s v.moment token server k (j.may AccessServers (Ob.Server server)) true good (judged.may AccessServers (Ob.Server server))
        (of_owner j.may s k server k.owner true (yes_of (access_in (print (identity j.may s k (Some server) k.owner))) is)))
    inside k j good judged No is =
        at_visit start x y v s (Admits token server false) visits reached
        (let_in s v.moment token server k (j.may AccessServers (Ob.Server server)) false good (judged.may AccessServers (Ob.Server server))
        (of_owner j.may s k server k.owner false (no_of (access_in (print (identity j.may s k (Some server) k.owner))) is)))
    inside k j good judged NoToken is = absurd (no_token_of (access_in (print (identity j.may s k (Some server) k.owner))) is)
    inside k j good judged BadReply is =
        inr (at_visit start x y v s (IsMute token server) visits reached (record {
          holder = k;
          good = good;
          rights = j.may;
          exact = judged.may;
          none = mute_owner j.may s k server k.owner (bad_of (access_in (print (identity j.may s k (Some server) k.owner))) is);
        }))

  -- by what the reply says
  module _ (start : Start) (x y : View) (token : List ℕ) (server : ServerKey) (bytes : List ℕ) (seen : Visited start x (ask token server) bytes y) where
    abbrev v : Visit
    v = seen.visit

    abbrev s : Hub
    s = (seen.said).state

    abbrev n : ℕ
    n = length (seen.visit).after

    found : (k : Option Token) × (good_token s.tables v.moment (Some token) ≡ k) × Identified s v.moment token server k (seen.said).answer
    found = identified s v.moment v.draw token server (seen.said).answer (seen.said).answers

    refused_text : (seen.said).answer ≡ refuses NoValidToken → bytes ≡ reply_text (short 403 (refusal_body NoValidToken) (Some n)) true
    refused_text a =
        let same : seen.reply ≡ refusal_reply n NoValidToken = same_reply seen.reply (refusal_reply n NoValidToken) ((seen.said).is ∙ ap (outcome_of n) a) in
        seen.is ∙ ap (λ (r : Reply). reply_text r true) same

    given_text : (shown : Json) → (seen.said).answer ≡ gives (replies.good 200 shown) → bytes ≡ reply_text (short 200 shown (Some n)) true
    given_text shown a =
        let same : seen.reply ≡ good_reply n (replies.good 200 shown) =
        same_reply seen.reply (good_reply n (replies.good 200 shown)) ((seen.said).is ∙ ap (outcome_of n) a) in
        seen.is ∙ ap (λ (r : Reply). reply_text r true) same

    said_access : (status : ℕ) (body : List ℕ) (access : Access) → IsReply bytes status body → access ≡ access_by status body → Judges start x y token server access
    said_access status body access reply is = by found.0 found.1 found.2
      where
        by : (k : Option Token) → good_token s.tables v.moment (Some token) ≡ k → Identified s v.moment token server k (seen.said).answer → Judges start x y token server access
        by None good a =
            let read = read_as 403 (refusal_body NoValidToken) (Some n) bytes status body refl is_403 (refused_text a) reply in
            out start x y v token server s seen.visits (seen.said).reached good access (is ∙ ap (λ (m : ℕ). access_by m body) read.0)
        by (Some k) good (j, judged, a) =
            let shown = identity j.may s k (Some server) k.owner in
            let read = read_as 200 shown (Some n) bytes status body (has_owner j.may s k server k.owner) is_200 (given_text shown a) reply in
            inside start x y v token server s seen.visits (seen.said).reached k j good judged access
            (is ∙ (ap (λ (m : ℕ). access_by m body) read.0 ∙ ap (λ (b : List ℕ). access_by 200 b) read.1))

    -- the bytes are a reply
    is_one : length bytes < 2 ^ 64 → IsNoReply bytes → ⊥
    is_one fits none = by found.0 found.2
      where
        by : (k : Option Token) → Identified s v.moment token server k (seen.said).answer → ⊥
        by None a =
            none 403 (print (refusal_body NoValidToken)) (reply_is 403 (refusal_body NoValidToken) (Some n) bytes refl is_403 (refused_text a) fits)
        by (Some k) (j, judged, a) =
            let shown = identity j.may s k (Some server) k.owner in
            none 200 (print shown) (reply_is 200 shown (Some n) bytes (has_owner j.may s k server k.owner) is_200 (given_text shown a) fits)

    pub judged : (access : Access) → length bytes < 2 ^ 64 → IsAccessOf bytes access → Judges start x y token server access
    judged access fits (None, says, is) = absurd (is_one fits says)
    judged access fits (Some (status, body), says, is) = said_access status body access says is

-- an ask for access changes nothing
pub asks_nothing : (token : List ℕ) (server : ServerKey) → ChangesNothing (ask token server)
asks_nothing token server = λ s now draw a answers.
    let found = identified s now draw token server a answers in
    unchanged s now token server found.0 a found.2
