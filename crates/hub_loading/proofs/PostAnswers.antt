-- What the posts of a job are answered: a refusal, or the change that they ask for.
use Rattle.std.proofs.Common.{◌≡◌, ◌⊎◌, inl, inr, ◌&&◌, ◌+◌, nat_lt, ℕ, Bool, true, false, not, cond, List, [], ◌∷◌, length, map, Option, Some, None, if◌then◌else◌, refl, sym, ap, ◌∙◌, subst}
use Rattle.std.specs.FinMap.{contains_key, len}
use Rattle.access_calls.specs.TokenCalls.{new_token, token_rows, token_rules, made, post_token}
use Rattle.admin_rules.specs.Rules as rule
use Rattle.admin_rules.specs.declared.refusals.RuleRefusal.TheVariants.{Full}
use Rattle.admin_rules.specs.Users.{new_user, if_none_new}
use Rattle.hub_calls.specs.Calling.{by_rules}
use Rattle.hub_calls.specs.Facts.{user_at}
use Rattle.hub_calls.specs.UserCalls.{post_user}
use Rattle.hub_core.specs.Answer.{by_token, good_token, if_there, if_no_client, action_rules, Judgement}
use Rattle.hub_core.specs.History.{Answers}
use Rattle.hub_core.specs.Needs.{needs}
use Rattle.hub_kit.specs.Hashes.{draw_text}
use Rattle.hub_machine.specs.Apply.{is_past_trail}
use Rattle.hub_machine.specs.Replies.{Answer, Good, good, refuses, changes, working, outcome_of, first_refusal, or_refusal, rules, if_so}
use Rattle.hub_machine.specs.State.{Hub}
use Rattle.hub_machine.specs.Trails.{in_trail}
use Rattle.hub_machine.specs.declared.change.Change.{Change}
use Rattle.hub_machine.specs.declared.change.Change.TheVariants.{Rows}
use Rattle.hub_machine.specs.declared.call.Call.TheVariants.{PostUser, PostToken}
use Rattle.hub_machine.specs.declared.refusal.Refusal.{Refusal}
use Rattle.hub_machine.specs.declared.refusal.Refusal.TheVariants.{NoDraw, NoValidToken, NotFound, TrailFull}
use Rattle.hub_machine.specs.declared.work.Work.{Work}
use Rattle.hub_rows.specs.declared.records.Token.{Token}
use Rattle.hub_view.specs.Fields.{Rights}
use Rattle.scope_filters.specs.declared.holder.Owner.TheVariants.{User}
use Rattle.scope_meet.specs.declared.inside.Inside.{Inside}
use Rattle.token_store.specs.Finding.{expired_tokens}
use Rattle.hub_loading.proofs.PostCalls.{root, add, issue, ask_for}
use Rattle.hub_loading.proofs.VisitLemmas.{NeverWorks}

-- it refuses, or makes this change
abbrev pub Makes : Change → Answer → Type 0
Makes c a = ((r : Refusal) × (a ≡ refuses r)) ⊎ ((g : Good) × (a ≡ changes c g))

by_refusal : (c : Change) (a : Answer) (o : Option Refusal) → Makes c a → Makes c (or_refusal a o)
by_refusal c a None is = is
by_refusal c a (Some r) is = inl (r, refl)

makes_by : (c : Change) (refusals : List (Option Refusal)) (a : Answer) → Makes c a → Makes c (rules refusals a)
makes_by c refusals a is = by_refusal c a (first_refusal refusals) is

if_room : (c : Change) (g : Good) (full : Bool) → Makes c (if full then refuses TrailFull else changes c g)
if_room c g true = inl (TrailFull, refl)
if_room c g false = inr (g, refl)

in_room : (s : Hub) (c : Change) (a : Answer) → Makes c a → Makes c (in_trail s a)
in_room s c a (inl (r, is)) = inl (r, ap (in_trail s) is)
in_room s c a (inr (g, is)) = subst (λ (b : Answer). Makes c (in_trail s b)) (sym is) (if_room c g (is_past_trail s c))

-- no work is given
makes_no_work : (c : Change) (a : Answer) (n : ℕ) (w : Work) → Makes c a → working w ≡ outcome_of n a → ⊥
makes_no_work c a n w (inl (r, is)) same = refused (same ∙ ap (outcome_of n) is)
  where
    refused : working w ≡ outcome_of n (refuses r) → ⊥
    refused e = cc e
makes_no_work c a n w (inr (g, is)) same = changed (same ∙ ap (outcome_of n) is)
  where
    changed : working w ≡ outcome_of n (changes c g) → ⊥
    changed e = cc e

-- ---- a user

-- the change of the post, at this moment
abbrev pub added : ℕ → List ℕ → Change
added now user = Rows (new_user false now user ∷ [])

-- by whether the user is kept
abbrev new_names : List ℕ → Bool → List (List ℕ)
new_names user kept = cond (not kept) (user ∷ []) []

abbrev by_kept : Hub → Rights → ℕ → List ℕ → Bool → Answer
by_kept s may now user kept =
    by_rules s (rule.by_rules (
    if_none_new (new_names user kept) (user ∷ [])
    ∷ rule.if_full 1 s.tables.limits.users (len s.tables.users) (length (new_names user kept))
    ∷ [])
    (map (new_user false now) (new_names user kept)))
    (λ after. good 201 (user_at may after user))

-- and whether there is no room
abbrev by_full : Hub → Rights → ℕ → List ℕ → Bool → Answer
by_full s may now user full =
    by_rules s (rule.by_rules (None ∷ rule.if_so full (Full 1 s.tables.limits.users) ∷ []) (new_user false now user ∷ []))
    (λ after. good 201 (user_at may after user))

full_makes : (s : Hub) (may : Rights) (now : ℕ) (user : List ℕ) (full : Bool) → Makes (added now user) (by_full s may now user full)
full_makes s may now user true = inl (_, refl)
full_makes s may now user false = inr (_, refl)

kept_makes : (s : Hub) (may : Rights) (now : ℕ) (user : List ℕ) (kept : Bool) → Makes (added now user) (by_kept s may now user kept)
kept_makes s may now user true = inl (_, refl)
kept_makes s may now user false = full_makes s may now user (nat_lt 0 1 && nat_lt s.tables.limits.users (len s.tables.users + 1))

post_makes : (s : Hub) (may : Rights) (now : ℕ) (user : List ℕ) → Makes (added now user) (post_user s may now user)
post_makes s may now user = kept_makes s may now user (contains_key s.tables.users user)

user_by : (s : Hub) (j : Judgement) (now : ℕ) (draw : Option (List ℕ)) (user : List ℕ) (k : Option Token) → Makes (added now user) (by_token s j now draw (PostUser user) k)
user_by s j now draw user None = inl (NoValidToken, refl)
user_by s j now draw user (Some k) =
    makes_by (added now user) (if_no_client s.tables (PostUser user) ∷ action_rules j (needs (PostUser user))) (if_there s j.may j.inside now draw k (PostUser user))
    (makes_by (added now user) (if_so false NotFound ∷ []) (post_user s j.may now user) (post_makes s j.may now user))

pub user_makes : (s : Hub) (now : ℕ) (draw : Option (List ℕ)) (user : List ℕ) (a : Answer) → Answers s now draw (add user) a → Makes (added now user) a
user_makes s now draw user a answers =
    let by : Answer = by_token s answers.judgement now draw (PostUser user) (good_token s.tables now (Some root)) in
    subst (Makes (added now user)) (sym answers.is) (in_room s (added now user) by (user_by s answers.judgement now draw user (good_token s.tables now (Some root))))

pub user_calm : (user : List ℕ) → NeverWorks (add user)
user_calm user = λ s now draw a answers n w is. makes_no_work (added now user) a n w (user_makes s now draw user a answers) is

-- ---- a token

-- the change of the post, in this state, at this moment, by this draw
abbrev pub issued : Hub → ℕ → List ℕ → List ℕ → Change
issued s now draw owner = Rows (token_rows (new_token s.tables now (draw_text draw) (ask_for owner)) (expired_tokens s.tables now (User owner)))

abbrev draw_or : Option (List ℕ) → List ℕ
draw_or None = []
draw_or (Some draw) = draw

drawn_makes : (s : Hub) (now : ℕ) (draw : Option (List ℕ)) (inside : Inside) (owner : List ℕ)
    → Makes (issued s now (draw_or draw) owner) (post_token s now draw inside (ask_for owner))
drawn_makes s now None inside owner = inl (NoDraw, refl)
drawn_makes s now (Some draw) inside owner =
    let over : List ℕ = expired_tokens s.tables now (User owner) in
    makes_by (issued s now draw owner) (token_rules s.tables over (draw_text draw) inside (ask_for owner))
    (made (new_token s.tables now (draw_text draw) (ask_for owner)) over (draw_text draw)) (inr (_, refl))

token_by : (s : Hub) (j : Judgement) (now : ℕ) (draw : Option (List ℕ)) (owner : List ℕ) (k : Option Token)
    → Makes (issued s now (draw_or draw) owner) (by_token s j now draw (PostToken (ask_for owner)) k)
token_by s j now draw owner None = inl (NoValidToken, refl)
token_by s j now draw owner (Some k) =
    let c : Change = issued s now (draw_or draw) owner in
    makes_by c (if_no_client s.tables (PostToken (ask_for owner)) ∷ action_rules j (needs (PostToken (ask_for owner))))
    (if_there s j.may j.inside now draw k (PostToken (ask_for owner)))
    (makes_by c (if_so (not (contains_key s.tables.users owner)) NotFound ∷ []) (post_token s now draw j.inside (ask_for owner))
    (drawn_makes s now draw j.inside owner))

token_answers : (s : Hub) (now : ℕ) (draw : Option (List ℕ)) (owner : List ℕ) (a : Answer) → Answers s now draw (issue owner) a
    → Makes (issued s now (draw_or draw) owner) a
token_answers s now draw owner a answers =
    let c : Change = issued s now (draw_or draw) owner in
    let by : Answer = by_token s answers.judgement now draw (PostToken (ask_for owner)) (good_token s.tables now (Some root)) in
    subst (Makes c) (sym answers.is) (in_room s c by (token_by s answers.judgement now draw owner (good_token s.tables now (Some root))))

pub token_makes : (s : Hub) (now : ℕ) (draw owner : List ℕ) (a : Answer) → Answers s now (Some draw) (issue owner) a → Makes (issued s now draw owner) a
token_makes s now draw owner a answers = token_answers s now (Some draw) owner a answers

pub token_calm : (owner : List ℕ) → NeverWorks (issue owner)
token_calm owner = λ s now draw a answers n w is. makes_no_work (issued s now (draw_or draw) owner) a n w (token_answers s now draw owner a answers) is
