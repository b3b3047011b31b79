-- One post more, and what it leaves.
use Rattle.std.proofs.Common.{◌≡◌, ◌<◌, ◌+◌, inl, inr, ◌⊎◌, ℕ, true, false, List, [], ◌∷◌, ◌++◌, length, codes, Option, Some, None, is_some, Ok, refl, sym, ap, ◌∙◌, subst}
use Rattle.hub_core.specs.History.{Answers, change_of, state_after}
use Rattle.hub_core.specs.Visits.{Entry, Reached, with_entry}
use Rattle.hub_core.specs.declared.start.Start.{Start}
use Rattle.hub_link.specs.Replies.{IsReply}
use Rattle.hub_machine.specs.Answers.{outcome_view}
use Rattle.hub_machine.specs.Replies.{Answer, answered, outcome_of, refusal_reply}
use Rattle.hub_machine.specs.State.{Hub}
use Rattle.hub_machine.specs.declared.call.Asked.{Asked}
use Rattle.hub_machine.specs.declared.change.Change.{Change}
use Rattle.hub_machine.specs.declared.refusal.Refusal.{Refusal}
use Rattle.hub_machine.specs.declared.refusal.Refusal.TheVariants.{KeeperFault}
use Rattle.hub_run.specs.Turns.{View, Visit, IsGiven, Drew}
use Rattle.load_asks.specs.Numbers.{draw, name}
use Rattle.load_asks.specs.Requests.{user_request, token_request}
use Rattle.direct_link.specs.Answered.{IsTurnOf, IsUnread}
use Rattle.direct_link.specs.Direct.{Direct}
use Rattle.direct_link.proofs.Turned.{its_turn}
use Rattle.hub_loading.proofs.AcceptedLemmas.{no_refusal, was_drawn, was_read}
use Rattle.hub_loading.proofs.GetLemmas.{user_target}
use Rattle.hub_loading.proofs.NameLemmas.{name_is}
use Rattle.hub_loading.proofs.PostAnswers.{Makes, added, issued, user_makes, user_calm, token_makes, token_calm}
use Rattle.hub_loading.proofs.PostCalls.{post_of, add, add_is, issue, issue_is}
use Rattle.hub_loading.proofs.PostReading.{user_reads, token_reads}
use Rattle.hub_loading.proofs.PostTargets.{tokens_target}
use Rattle.hub_loading.proofs.VisitLemmas.{Gave, gave_of}
use Rattle.hub_loading.specs.Posted.{user_change, token_change}

-- the pass is alone and has seen this history, and the clock stands
pub record Stands (start : Start) (h : List Change) (x : View) : Type 0 where
  pub base : x.pass.base ≡ Some start
  pub alone : x.pass.alone ≡ true
  pub seen : x.pass.seen ≡ h
  pub clock : x.clock ≡ Some (λ k. 1700000000)

-- ---- the state

-- it is what the history left
pub state_is : (start : Start) (h : List Change) (before : List Entry) (s : Hub) → before ≡ h → Reached start before s → s ≡ state_after start.machine h
state_is start h before s is reached = reached.state ∙ ap (state_after start.machine) is

-- ---- the entry of a post

noted_so : (o : Option Change) (c : Change) (before : List Entry) → o ≡ Some c → with_entry o before ≡ before ++ c ∷ []
noted_so o c before one = ap (λ (p : Option Change). with_entry p before) one

-- the state that a visit found, and the change in that state as the one entry more
abbrev pub Noted : Start → Visit → (Hub → Change) → Type 0
Noted start v change = (s : Hub) × Reached start v.before s × (v.after ≡ v.before ++ change s ∷ [])

noted_by : (start : Start) (x y : View) (asked : Asked) (bytes body : List ℕ) (change : Hub → Change) (gave : Gave start x asked bytes y) → IsReply bytes 201 body
    → ((s : Hub) (a : Answer) → Answers s (gave.visit).moment (gave.visit).draw asked a → Makes (change s) a) → Noted start gave.visit change
noted_by start x y asked bytes body change gave reply makes = by gave.given
  where
    n : ℕ
    n = length (gave.visit).after

    refused : (r : Refusal) → answered gave.reply ≡ answered (refusal_reply n r) → ⊥
    refused r said = no_refusal n r gave.reply bytes body said gave.is reply

    made : (s : Hub) (a : Answer) → Reached start (gave.visit).before s → (gave.visit).after ≡ with_entry (change_of a) (gave.visit).before
        → outcome_view gave.outcome ≡ outcome_of n a → Makes (change s) a → Noted start gave.visit change
    made s a reached noted outcome (inl (r, is)) = absurd (refused r (sym gave.said ∙ (outcome ∙ ap (outcome_of n) is)))
    made s a reached noted outcome (inr (g, is)) =
        (s, reached, noted ∙ noted_so (change_of a) (change s) (gave.visit).before (ap change_of is))

    by : IsGiven start gave.visit asked gave.outcome → Noted start gave.visit change
    by (inl at) = made at.state at.answer at.reached at.noted at.outcome (makes at.state at.answer at.answers)
    by (inr at) = absurd (refused KeeperFault (sym gave.said ∙ at.outcome))

-- ---- what is left of the draws

undrawn : (o : Option (List ℕ)) (left left' : Option (List (List ℕ))) (f f' : ℕ) → is_some o ≡ false → Drew o left f left' f' → left' ≡ left
undrawn None left left' f f' is drew = drew.0
undrawn (Some d) left left' f f' is drew = absurd (cc is)

abbrev Taken : Option (List ℕ) → List ℕ → List (List ℕ) → Option (List (List ℕ)) → Type 0
Taken o d ds left = (o ≡ Some d) × (left ≡ Some ds)

same_first : (a b : List ℕ) (xs ys : List (List ℕ)) → a ∷ xs ≡ b ∷ ys → b ≡ a
same_first a b xs ys e = cc

same_rest : (a b : List ℕ) (xs ys : List (List ℕ)) → a ∷ xs ≡ b ∷ ys → ys ≡ xs
same_rest a b xs ys e = cc

first_taken : (o : Option (List ℕ)) (d : List ℕ) (ds : List (List ℕ)) (left left' : Option (List (List ℕ))) (f f' : ℕ) → is_some o ≡ true → left ≡ Some (d ∷ ds)
    → Drew o left f left' f' → Taken o d ds left'
first_taken None d ds left left' f f' is has drew = absurd (cc is)
first_taken (Some e) d ds left left' f f' is has drew =
    let (rest, same, after) = (drew.0).leaves (d ∷ ds) has in (
      ap (λ (t : List ℕ). Some t) (same_first d e ds rest same),
      after ∙ ap (λ (ts : List (List ℕ)). Some ts) (same_rest d e ds rest same),
    )

-- ---- what a post leaves

left_so : (start : Start) (h : List Change) (c : Hub → Change) (x y : View) (asked : Asked) (bytes : List ℕ) (request : List ℕ) (gave : Gave start x asked bytes y)
    → Stands start h x → Direct x request (Ok bytes) y → Noted start gave.visit c → Stands start (h ++ c (state_after start.machine h) ∷ []) y
left_so start h c x y asked bytes request gave stands direct (s, reached, noted) =
    let v : Visit = gave.visit in
    let found : v.before ≡ h = (gave.visits).whole stands.alone ∙ stands.seen in
    let state : s ≡ state_after start.machine h = state_is start h v.before s found reached in
    record {
      base = (direct.same).base ∙ stands.base;
      alone = (direct.same).alone ∙ stands.alone;
      seen = (gave.visits).seen
          ∙ (noted
          ∙ (ap (λ (b : List Entry). b ++ c s ∷ []) found
          ∙ ap (λ (t : Hub). h ++ c t ∷ []) state));
      clock = (((gave.visits).told).next (λ k. 1700000000) stands.clock).1;
    }

moment_is : (start : Start) (h : List Change) (x y : View) (asked : Asked) (bytes : List ℕ) (gave : Gave start x asked bytes y) → Stands start h x
    → (gave.visit).moment ≡ 1700000000
moment_is start h x y asked bytes gave stands = (((gave.visits).told).next (λ k. 1700000000) stands.clock).0

-- ---- a user

never_drawn : false ≡ true → ⊥
never_drawn is = cc is

module _ (start : Start) (h : List Change) (k : ℕ) (few : k < 1000000) (x y : View) (bytes body : List ℕ) (stands : Stands start h x)
    (reply : IsReply bytes 201 body) where
  user_gave : Direct x (user_request k) (Ok bytes) y → Gave start x (add (name k)) bytes y
  user_gave direct = by (its_turn start x y (user_request k) bytes (post_of (user_target (name k)) []) stands.base (user_reads k (name_is k few)) refl direct)
    where
      by : IsTurnOf start x (post_of (user_target (name k)) []) bytes y ⊎ IsUnread bytes → Gave start x (add (name k)) bytes y
      by (inl turned) =
          gave_of start (add (name k)) (user_calm (name k)) x y (post_of (user_target (name k)) []) bytes (add_is (name k) (name_is k few)) refl
          (λ is same. never_drawn is) turned
      by (inr unread) = absurd (was_read bytes body reply unread)

  pub user_posted : Direct x (user_request k) (Ok bytes) y → Stands start (h ++ user_change k ∷ []) y × (y.draws ≡ x.draws)
  user_posted direct =
      let gave : Gave start x (add (name k)) bytes y = user_gave direct in
      let v : Visit = gave.visit in
      let noted : Noted start v (λ s. added v.moment (name k)) =
      noted_by start x y (add (name k)) bytes body (λ s. added v.moment (name k)) gave reply (λ s a answers. user_makes s v.moment v.draw (name k) a answers) in
      let now : v.moment ≡ 1700000000 = moment_is start h x y (add (name k)) bytes gave stands in (
        left_so start h (λ s. user_change k) x y (add (name k)) bytes (user_request k) gave stands direct
            (subst (λ (m : ℕ). Noted start v (λ s. added m (name k))) now noted),
        undrawn v.draw x.draws y.draws _ _ gave.drawn (gave.visits).drew,
      )

  -- ---- a token

  token_gave : Direct x (token_request k) (Ok bytes) y → Gave start x (issue (name k)) bytes y
  token_gave direct =
      by (its_turn start x y (token_request k) bytes (post_of (tokens_target (name k)) (codes "{}")) stands.base (token_reads k (name_is k few)) refl direct)
    where
      by : IsTurnOf start x (post_of (tokens_target (name k)) (codes "{}")) bytes y ⊎ IsUnread bytes → Gave start x (issue (name k)) bytes y
      by (inl turned) =
          gave_of start (issue (name k)) (token_calm (name k)) x y (post_of (tokens_target (name k)) (codes "{}")) bytes (issue_is (name k) (name_is k few)) refl
          (λ is same. was_drawn bytes body reply same) turned
      by (inr unread) = absurd (was_read bytes body reply unread)

  pub token_posted : (ds : List (List ℕ)) → x.draws ≡ Some (draw (k + 1) ∷ ds) → Direct x (token_request k) (Ok bytes) y
      → Stands start (h ++ token_change k (state_after start.machine h) ∷ []) y × (y.draws ≡ Some ds)
  token_posted ds has direct =
      let gave : Gave start x (issue (name k)) bytes y = token_gave direct in
      let v : Visit = gave.visit in
      let taken : Taken v.draw (draw (k + 1)) ds y.draws = first_taken v.draw (draw (k + 1)) ds x.draws y.draws _ _ gave.drawn has (gave.visits).drew in
      let noted : Noted start v (λ s. issued s v.moment (draw (k + 1)) (name k)) =
      noted_by start x y (issue (name k)) bytes body (λ s. issued s v.moment (draw (k + 1)) (name k)) gave reply
      (λ s a answers. token_makes s v.moment (draw (k + 1)) (name k) a (subst (λ (o : Option (List ℕ)). Answers s v.moment o (issue (name k)) a) taken.0 answers)) in
      let now : v.moment ≡ 1700000000 = moment_is start h x y (issue (name k)) bytes gave stands in (
        left_so start h (token_change k) x y (issue (name k)) bytes (token_request k) gave stands direct
            (subst (λ (m : ℕ). Noted start v (λ s. issued s m (draw (k + 1)) (name k))) now noted),
        taken.1,
      )
