-- Whom the hub's reply shows, by the rights in the state that it was answered in.
use Rattle.std.proofs.Common.{◌≡◌, ◌↔◌, ◌<◌, arith, ◌&&◌, inl, inr, ◌⊎◌, ℕ, Bool, true, false, not, IsTrue, List, [], ◌∷◌, length, Option, Some, None, is_some, Ok, refl, sym, ap, ◌∙◌, subst}
use Rattle.std.specs.FinMap.{get, contains_key}
use Rattle.http_wire.specs.declared.request.Request.{Request}
use Rattle.access_laws.specs.Asks.{OnlyReads, get_of}
use Rattle.hub_calls.specs.Facts.{user_at, body_of_user}
use Rattle.hub_core.specs.Answer.{good_token, by_token, Judgement}
use Rattle.hub_core.specs.History.{Answers, change_of}
use Rattle.hub_core.specs.Judged.{JudgesCaller, JudgesToken}
use Rattle.hub_core.specs.declared.start.Start.{Start}
use Rattle.hub_kit.specs.Names.{IsName}
use Rattle.hub_link.specs.Replies.{IsReply}
use Rattle.hub_machine.specs.Replies.{Answer, Reply, refuses, gives, rules, if_so, good_reply, refusal_reply, refusal_body, status_of, answered, outcome_of}
use Rattle.hub_machine.specs.Replies as replies
use Rattle.hub_machine.specs.State.{Hub}
use Rattle.hub_machine.specs.Trails.{in_trail}
use Rattle.hub_machine.specs.declared.call.Call.TheVariants.{GetUser}
use Rattle.hub_machine.specs.declared.refusal.Refusal.{Refusal}
use Rattle.hub_machine.specs.declared.refusal.Refusal.TheVariants.{NoValidToken, Needs, NotFound}
use Rattle.hub_rows.specs.declared.records.Token.{Token}
use Rattle.hub_rows.specs.declared.records.User.{User}
use Rattle.hub_run.specs.Turns.{View}
use Rattle.hub_view.specs.Fields.{Rights}
use Rattle.hub_view.specs.Json.{Json}
use Rattle.reply_texts.specs.ReplyText.{reply_text, has_body}
use Rattle.roles.specs.Rights.{IsAllowed}
use Rattle.scope_filters.specs.declared.object.Object.TheVariants as Ob
use Rattle.scope_names.specs.declared.action.Action.TheVariants.{ReadUsersName}
use Rattle.direct_link.specs.Answered.{IsTurnOf, IsUnread}
use Rattle.direct_link.specs.Direct.{Direct}
use Rattle.direct_link.specs.Verdicts.{HoldsAt}
use Rattle.direct_link.proofs.Judging.{ChangesNothing, Visited, visit_of, at_visit}
use Rattle.direct_link.proofs.Replied.{IsStatus, read_as, is_200, is_403, is_404}
use Rattle.direct_link.proofs.Turned.{its_turn}
use Rattle.hub_loading.proofs.BoolLemmas.{both, both_first, both_rest}
use Rattle.hub_loading.specs.Seeing.{IsSeen}
use Rattle.hub_loading.specs.Rounds.{found_status}
use Rattle.hub_loading.proofs.GetLemmas.{see, user_target, call_is}
use Rattle.direct_link.proofs.Unread.{unread_status, IsWireStatus}
use Rattle.hub_loading.proofs.VisitLemmas.{quiet_turn}

-- ---- what is answered in a state

-- by whether the right is held at all, whether it is on the user, and whether there is one
abbrev shown : (held may there : Bool) → Json → Answer
shown false may there body = refuses (Needs ReadUsersName)
shown true false there body = refuses NotFound
shown true true false body = refuses NotFound
shown true true true body = gives (replies.good 200 body)

shown_as : (s : Hub) (held may there : Bool) (body : Json)
    → in_trail s (rules (None ∷ if_so (not held) (Needs ReadUsersName) ∷ if_so (not may) NotFound ∷ []) (rules (if_so (not there) NotFound ∷ []) (gives (replies.good 200 body))))
    ≡ shown held may there body
shown_as s false may there body = refl
shown_as s true false there body = refl
shown_as s true true false body = refl
shown_as s true true true body = refl

-- by the token that is good, if one is
abbrev Answered : Hub → List ℕ → Option Token → Answer → Type 0
Answered s user None a = a ≡ refuses NoValidToken
Answered s user (Some k) a =
    (j : Judgement) × JudgesToken s.tables k (GetUser user) j
    × (a ≡ shown j.is_held (j.may ReadUsersName (Ob.User user)) (contains_key s.tables.users user) (user_at j.may s user))

answered_so : (s : Hub) (now : ℕ) (draw : Option (List ℕ)) (token user : List ℕ) (a : Answer) → Answers s now draw (see token user) a
    → (k : Option Token) × (good_token s.tables now (Some token) ≡ k) × Answered s user k a
answered_so s now draw token user a answers = by (good_token s.tables now (Some token)) refl
  where
    j : Judgement
    j = answers.judgement

    by : (k : Option Token) → good_token s.tables now (Some token) ≡ k → (k : Option Token) × (good_token s.tables now (Some token) ≡ k) × Answered s user k a
    by None is = (None, is, answers.is ∙ ap (λ (k : Option Token). in_trail s (by_token s j now draw (GetUser user) k)) is)
    by (Some k) is =
        let there : Answered s user (Some k) a = (
          j,
          subst (λ (o : Option Token). JudgesCaller s.tables (GetUser user) j o) is answers.judged,
          answers.is
              ∙ (ap (λ (k : Option Token). in_trail s (by_token s j now draw (GetUser user) k)) is
              ∙ shown_as s j.is_held (j.may ReadUsersName (Ob.User user)) (contains_key s.tables.users user) (user_at j.may s user)),
        ) in
        (Some k, is, there)

-- no change is made
shown_unchanged : (held may there : Bool) (body : Json) → change_of (shown held may there body) ≡ None
shown_unchanged false may there body = refl
shown_unchanged true false there body = refl
shown_unchanged true true false body = refl
shown_unchanged true true true body = refl

unchanged : (s : Hub) (user : List ℕ) (k : Option Token) (a : Answer) → Answered s user k a → change_of a ≡ None
unchanged s user None a is = ap change_of is
unchanged s user (Some k) a (j, judged, is) =
    ap change_of is ∙ shown_unchanged j.is_held (j.may ReadUsersName (Ob.User user)) (contains_key s.tables.users user) (user_at j.may s user)

sees_nothing_done : (token user : List ℕ) → ChangesNothing (see token user)
sees_nothing_done token user = λ s now draw a answers.
    let found = answered_so s now draw token user a answers in
    unchanged s user found.0 a found.2

-- ---- statuses

apart : (m n : ℕ) → m < n → m ≡ n → ⊥
apart m n less is = omega (arith, less, is)

found_false : (found : Bool) → found_status found ≡ 404 → found ≡ false
found_false true is = absurd (apart 200 404 (omega arith) is)
found_false false is = refl

found_true : (found : Bool) → found_status found ≡ 200 → found ≡ true
found_true true is = refl
found_true false is = absurd (apart 200 404 (omega arith) (sym is))

not_400 : (found : Bool) → found_status found ≡ 400 → ⊥
not_400 true is = apart 200 400 (omega arith) is
not_400 false is = apart 400 404 (omega arith) (sym is)

not_403 : (found : Bool) → found_status found ≡ 403 → ⊥
not_403 true is = apart 200 403 (omega arith) is
not_403 false is = apart 403 404 (omega arith) (sym is)

not_413 : (found : Bool) → found_status found ≡ 413 → ⊥
not_413 true is = apart 200 413 (omega arith) is
not_413 false is = apart 404 413 (omega arith) is

not_501 : (found : Bool) → found_status found ≡ 501 → ⊥
not_501 true is = apart 200 501 (omega arith) is
not_501 false is = apart 404 501 (omega arith) is

-- ---- what the reply says

same_reply : (a b : Reply) → answered a ≡ answered b → a ≡ b
same_reply a b e = cc

refusal_is : (n : ℕ) (r : Refusal) (reply : Reply) (bytes : List ℕ) (status : ℕ) (body : List ℕ) → has_body (refusal_body r) ≡ true → IsStatus (status_of r)
    → answered reply ≡ outcome_of n (refuses r) → bytes ≡ reply_text reply true → IsReply bytes status body → status ≡ status_of r
refusal_is n r reply bytes status body there known said is read =
    let same : reply ≡ refusal_reply n r = same_reply reply (refusal_reply n r) said in
    (read_as (status_of r) (refusal_body r) (Some n) bytes status body there known (is ∙ ap (λ (o : Reply). reply_text o true) same) read).0

shown_is : (n : ℕ) (shows : Json) (reply : Reply) (bytes : List ℕ) (status : ℕ) (body : List ℕ) → has_body shows ≡ true
    → answered reply ≡ outcome_of n (gives (replies.good 200 shows)) → bytes ≡ reply_text reply true → IsReply bytes status body → status ≡ 200
shown_is n shows reply bytes status body there said is read =
    let same : reply ≡ good_reply n (replies.good 200 shows) = same_reply reply (good_reply n (replies.good 200 shows)) said in
    (read_as 200 shows (Some n) bytes status body there is_200 (is ∙ ap (λ (o : Reply). reply_text o true) same) read).0

found_as : (held may there : Bool) (shows : Json) (found : Bool) (n : ℕ) (reply : Reply) (bytes body : List ℕ) → (there ≡ true → has_body shows ≡ true)
    → answered reply ≡ outcome_of n (shown held may there shows) → bytes ≡ reply_text reply true → IsReply bytes (found_status found) body → found ≡ (may && there)
found_as false may there shows found n reply bytes body full said is read =
    absurd (not_403 found (refusal_is n (Needs ReadUsersName) reply bytes (found_status found) body refl is_403 said is read))
found_as true false there shows found n reply bytes body full said is read =
    found_false found (refusal_is n NotFound reply bytes (found_status found) body refl is_404 said is read)
found_as true true false shows found n reply bytes body full said is read =
    found_false found (refusal_is n NotFound reply bytes (found_status found) body refl is_404 said is read)
found_as true true true shows found n reply bytes body full said is read =
    found_true found (shown_is n shows reply bytes (found_status found) body (full refl) said is read)

full_body : (may : Rights) (s : Hub) (o : Option User) → is_some o ≡ true → has_body (body_of_user may s o) ≡ true
full_body may s None is = absurd (cc is)
full_body may s (Some u) is = refl

-- ---- by the rights

same_holder : (a b : Token) (o : Option Token) → o ≡ Some a → o ≡ Some b → a ≡ b
same_holder a b o one two = cc

finds_so : (s : Hub) (now : ℕ) (token user : List ℕ) (k : Token) (may found : Bool) → good_token s.tables now (Some token) ≡ Some k
    → (IsTrue may ↔ IsAllowed s.tables k ReadUsersName (Ob.User user)) → found ≡ (may && contains_key s.tables.users user) → IsSeen token user found s now
finds_so s now token user k may found good allowed is = (
  λ yes.
      let all : (may && contains_key s.tables.users user) ≡ true = sym is ∙ yes in
      record {
        holder = k;
        good = good;
        allowed = allowed.0 (both_first may (contains_key s.tables.users user) all);
        there = both_rest may (contains_key s.tables.users user) all;
      },
  λ sees.
      let same : sees.holder ≡ k = same_holder sees.holder k (good_token s.tables now (Some token)) sees.good good in
      is ∙ both may (contains_key s.tables.users user) (allowed.1 (subst (λ (h : Token). IsAllowed s.tables h ReadUsersName (Ob.User user)) same sees.allowed)) sees.there,
)

-- ---- the visit

seen_so : (start : Start) (x y : View) (token user bytes body : List ℕ) (found : Bool) → Visited start x (see token user) bytes y
    → IsReply bytes (found_status found) body → HoldsAt start x y (IsSeen token user found)
seen_so start x y token user bytes body found seen read = by had.0 had.1 had.2
  where
    s : Hub
    s = (seen.said).state

    n : ℕ
    n = length (seen.visit).after

    had : (k : Option Token) × (good_token s.tables (seen.visit).moment (Some token) ≡ k) × Answered s user k (seen.said).answer
    had = answered_so s (seen.visit).moment (seen.visit).draw token user (seen.said).answer (seen.said).answers

    by : (k : Option Token) → good_token s.tables (seen.visit).moment (Some token) ≡ k → Answered s user k (seen.said).answer → HoldsAt start x y (IsSeen token user found)
    by None good a =
        absurd (not_403 found
        (refusal_is n NoValidToken seen.reply bytes (found_status found) body refl is_403 ((seen.said).is ∙ ap (outcome_of n) a) seen.is read))
    by (Some k) good (j, judged, a) =
        at_visit start x y seen.visit s (IsSeen token user found) seen.visits (seen.said).reached
        (finds_so s (seen.visit).moment token user k (j.may ReadUsersName (Ob.User user)) found good (judged.may ReadUsersName (Ob.User user))
        (found_as j.is_held (j.may ReadUsersName (Ob.User user)) (contains_key s.tables.users user) (user_at j.may s user) found n seen.reply bytes body
        (full_body j.may s (get s.tables.users user)) ((seen.said).is ∙ ap (outcome_of n) a) seen.is read))

-- ---- bytes that were refused unread

unread_not : (bytes body : List ℕ) (found : Bool) → IsUnread bytes → IsReply bytes (found_status found) body → ⊥
unread_not bytes body found unread reply = by (unread_status bytes (found_status found) body unread reply)
  where
    by : IsWireStatus (found_status found) → ⊥
    by (inl is) = not_400 found is
    by (inr (inl is)) = not_413 found is
    by (inr (inr is)) = not_501 found is

-- ---- the ask

pub finds_by : (start : Start) (x y : View) (token user request bytes body : List ℕ) (found : Bool) → x.pass.base ≡ Some start → IsName user
    → OnlyReads request (get_of (user_target user) token) → Direct x request (Ok bytes) y → IsReply bytes (found_status found) body
    → HoldsAt start x y (IsSeen token user found) × (x.pass.alone ≡ true → y.pass.seen ≡ x.pass.seen)
finds_by start x y token user request bytes body found base named only direct reply =
    by (its_turn start x y request bytes (get_of (user_target user) token) base only refl direct)
  where
    q : Request
    q = get_of (user_target user) token

    nothing : ChangesNothing (see token user)
    nothing = sees_nothing_done token user

    by : IsTurnOf start x (get_of (user_target user) token) bytes y ⊎ IsUnread bytes
        → HoldsAt start x y (IsSeen token user found) × (x.pass.alone ≡ true → y.pass.seen ≡ x.pass.seen)
    by (inl turned) = (
      seen_so start x y token user bytes body found
          (visit_of start x y q bytes (see token user) (call_is user token named) refl nothing refl turned) reply,
      λ alone. quiet_turn start x y q bytes (see token user) (call_is user token named) refl nothing refl turned alone,
    )
    by (inr unread) = absurd (unread_not bytes body found unread reply)
