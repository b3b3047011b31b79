-- A call that brings a removed token is turned away.
use Rattle.std.proofs.Common.{◌≡◌, ◌⊎◌, inl, inr, ⊎_elim, ◌≤◌, ℕ, true, false, List, [], ◌∷◌, ◌++◌, length, All, Option, Some, None, Result, Ok, Err, refl, sym, ap, ◌∙◌, subst, arith}
use Rattle.std.specs.List.{AllByRecursion}
use Rattle.std.proofs.lemmas.Bool.{ltb-false}
use Rattle.std.proofs.lemmas.List.Elements.{recursion_from_All, All-from_recursion}
use mathlib.Core.List.{IsPrefix}
use Rattle.desk.proofs.Prefixes.{prefix_trans, prefix_shorter}
use Rattle.http_wire.specs.Request.{IsRequestText}
use Rattle.http_wire.specs.declared.request.Request.{Request}
use Rattle.hub_api.specs.Calls.{call_read}
use Rattle.hub_api.specs.declared.refusal.ApiRefusal.{ApiRefusal}
use Rattle.hub_core.specs.Answer.{is_past, named}
use Rattle.hub_core.specs.History.{Answers, change_of, state_after}
use Rattle.hub_core.specs.Needs.{needs_token}
use Rattle.hub_core.specs.Removed.{PutsNoToken, IsRemoved, IsTokenRefused}
use Rattle.hub_core.specs.Visits.{Reached, with_entry}
use Rattle.hub_core.specs.declared.start.Start.{Start}
use Rattle.hub_core.proofs.Removals.{refused_unkept, stays_removed}
use Rattle.hub_machine.specs.Answers.{outcome_view}
use Rattle.hub_machine.specs.Apply.{rows_of}
use Rattle.hub_machine.specs.Replies.{Reply, Answer, answered, working, outcome_of, refusal_reply}
use Rattle.hub_machine.specs.State.{Hub}
use Rattle.hub_kit.specs.Hashes.{hash_text}
use Rattle.hub_tables.specs.Lookups.{token_of_hash}
use Rattle.hub_machine.specs.declared.call.Asked.{Asked}
use Rattle.hub_machine.specs.declared.change.Change.{Change}
use Rattle.hub_machine.specs.declared.refusal.Refusal.TheVariants.{NoValidToken, SeenPast}
use Rattle.hub_machine.specs.declared.reply.Outcome.{Outcome}
use Rattle.hub_machine.specs.declared.work.Work as owed
use Rattle.hub_run.specs.Removed.{Knows, StandsIn, IsTokenRefusal, IsTurnedAway}
use Rattle.hub_run.specs.Turns.{Turn, View, Visit, Visits, Errand, visited, worked, declined, undrawn, refused, unsaid, unfinished, wanting, routed, unrouted, TurnAt, IsLet, IsGiven, IsAnswered, IsSent, LeavesNoWork, Moves}
use Rattle.hub_run.specs.Routed.{Asking, lets}
use Rattle.hub_run.specs.declared.routed.Way.{Way}
use Rattle.hub_run.proofs.CompleteLemmas.{NextIsOne, its_turn}

same_asked : (a b : Asked) (e : Result Asked ApiRefusal) → e ≡ Ok a → e ≡ Ok b → a ≡ b
same_asked a b e first second = cc

same_reply : (a b : Reply) → answered a ≡ answered b → a ≡ b
same_reply a b e = cc

no_work : (w : owed.Work) (r : Reply) → working w ≡ answered r → ⊥
no_work w r e = cc

none_way : (way : Way) → None ≡ Some way → ⊥
none_way way e = cc

-- a refusal of the token lets no call go on
no_way : (asked : Asked) (n : ℕ) (call : Asked) (r : Reply) (way : Way) → IsTokenRefusal asked n r → lets call.call r ≡ Some way → ⊥
no_way asked n call r way (inl e) goes = none_way way (sym (ap (lets call.call) e) ∙ goes)
no_way asked n call r way (inr e) goes = none_way way (sym (ap (lets call.call) e) ∙ goes)

none_some : (c : Change) → None ≡ Some c → ⊥
none_some c e = cc

-- ---- entries

behind : (gone : List Change) (xs ys : List Change) → IsPrefix (gone ++ xs) (gone ++ ys) → IsPrefix xs ys
behind [] xs ys p = p
behind (c ∷ gone) xs ys p = behind gone xs ys (p.0, cc (p.1))

front_all : (P : Change → Type 0) (xs ys : List Change) → AllByRecursion P (xs ++ ys) → AllByRecursion P xs
front_all P [] ys h = tt
front_all P (x ∷ xs) ys h = (h.0, front_all P xs ys h.1)

front : (P : Change → Type 0) (xs ys : List Change) → IsPrefix xs ys → All P ys → All P xs
front P xs ys p h = All-from_recursion P xs (front_all P xs p.0 (recursion_from_All P (xs ++ p.0) (subst (All P) (sym p.1) h)))

-- ---- the state that a visit finds

not_past : (n : ℕ) (seen : Option ℕ) → is_past n seen ≡ false → named seen ≤ n
not_past n None h = omega arith
not_past n (Some m) h = ltb-false n m h

module _ (start : Start) (text : List ℕ) (gone later : List Change) (removed : IsRemoved start.machine text gone later) where
  -- no token of the text is kept after entries that begin with those that left none
  unkept : (h : List Change) → IsPrefix gone h → IsPrefix h (gone ++ later) → token_of_hash (state_after start.machine h).tables (hash_text text) ≡ None
  unkept h begins within =
      let rest : List Change = begins.0 in
      let front_of : IsPrefix rest later = behind gone rest later (subst (λ (k : List Change). IsPrefix k (gone ++ later)) (sym begins.1) within) in
      subst (λ (k : List Change). token_of_hash (state_after start.machine k).tables (hash_text text) ≡ None) begins.1
      (stays_removed start.machine text gone rest (record { removed = removed.removed; never_again = front (λ (c : Change). All (PutsNoToken (hash_text text)) (rows_of c)) rest later front_of removed.never_again }))

  module _ (x : View) (v : Visit) (asked : Asked) (begins : IsPrefix x.pass.seen v.before) (knows : Knows x asked gone)
      (within : IsPrefix v.before (gone ++ later)) (token : asked.token ≡ Some text) (needed : needs_token asked.call ≡ true) where
    -- they are found, unless the call names more than there is
    found_by : Knows x asked gone → (n : ℕ) → n ≡ length v.before → is_past n asked.seen ≡ false → IsPrefix gone v.before
    found_by (inl seen) n long past = prefix_trans gone x.pass.seen v.before seen begins
    found_by (inr reached) n long past =
        prefix_shorter gone v.before (gone ++ later) (later, refl) within (let below = not_past n asked.seen past in omega (arith, reached, below, long))

    refused_at : (state : Hub) (a : Answer) → Reached start v.before state → Answers state v.moment v.draw asked a → IsTokenRefused state asked a
    refused_at state a reached answers =
        refused_unkept state v.moment v.draw asked a text answers token needed (λ past.
        ap (λ (s : Hub). token_of_hash s.tables (hash_text text)) reached.state ∙ unkept v.before (found_by knows state.length reached.length past) within)

    -- ---- what it gives

    abbrev TurnedAway : Outcome → Type 0
    TurnedAway o = (v.after ≡ v.before) × (r : Reply) × (outcome_view o ≡ answered r) × IsTokenRefusal asked (length v.after) r

    answered_so : (o : Outcome) (state : Hub) (a : Answer) → state.length ≡ length v.before → v.after ≡ with_entry (change_of a) v.before
        → outcome_view o ≡ outcome_of (length v.after) a → IsTokenRefused state asked a → TurnedAway o
    answered_so o state a long noted is (inl e) = (
      noted ∙ ap (λ (b : Answer). with_entry (change_of b) v.before) e,
      refusal_reply (length v.after) NoValidToken,
      is ∙ ap (outcome_of (length v.after)) e,
      inl refl,
    )
    answered_so o state a long noted is (inr e) =
        let same : v.after ≡ v.before = noted ∙ ap (λ (b : Answer). with_entry (change_of b) v.before) e in (
          same,
          refusal_reply (length v.after) (SeenPast (named asked.seen) state.length),
          is ∙ ap (outcome_of (length v.after)) e,
          inr (ap (λ (n : ℕ). refusal_reply (length v.after) (SeenPast (named asked.seen) n)) (long ∙ ap length (sym same))),
        )

    no_change : (state : Hub) (a : Answer) (c : Change) → change_of a ≡ Some c → IsTokenRefused state asked a → ⊥
    no_change state a c has (inl e) = none_some c (sym (ap change_of e) ∙ has)
    no_change state a c has (inr e) = none_some c (sym (ap change_of e) ∙ has)

    given : (o : Outcome) → IsGiven start v asked o → TurnedAway o
    given o (inl at) = answered_so o at.state at.answer at.reached.length at.noted at.outcome (refused_at at.state at.answer at.reached at.answers)
    given o (inr at) = absurd (no_change at.state at.answer at.change at.has (refused_at at.state at.answer at.reached at.answers))

    told_reply : (o : Outcome) (r : Reply) → outcome_view o ≡ answered r → TurnedAway o → (v.after ≡ v.before) × IsTokenRefusal asked (length v.after) r
    told_reply o r said away = (away.0, subst (λ (p : Reply). IsTokenRefusal asked (length v.after) p) (same_reply away.1 r (sym away.2 ∙ said)) away.3)

    no_errand : (o : Outcome) (w : owed.Work) → outcome_view o ≡ working w → TurnedAway o → ⊥
    no_errand o w gives away = no_work w away.1 (sym gives ∙ away.2)

    no_leave : (o : Outcome) (r : Reply) (call : Asked) (way : Way) → outcome_view o ≡ answered r → lets call.call r ≡ Some way → TurnedAway o → ⊥
    no_leave o r call way said goes away = no_way asked (length v.after) call r way (told_reply o r said away).1 goes

-- ---- the turns

module _ (one : NextIsOne) (start : Start) (x y : View) (left : Option (List ℕ)) (bytes more rest : List ℕ) (request : Request) (asked : Asked) (text : List ℕ) (gone later : List Change)
    (is : IsRequestText request bytes) (read : call_read request ≡ Ok asked) (token : asked.token ≡ Some text) (needed : needs_token asked.call ≡ true)
    (removed : IsRemoved start.machine text gone later) (knows : Knows x asked gone) where
  -- the call of the turn's request
  its_call : (q : Request) (call : Asked) → q ≡ request → call_read q ≡ Ok call → call ≡ asked
  its_call q call mine found = same_asked call asked (call_read request) (ap call_read (sym mine) ∙ found) read

  sent_away : (q : Request) (v : Visit) (e : Errand) → q ≡ request → IsSent start q v e → IsPrefix x.pass.seen v.before → IsPrefix v.before (gone ++ later) → ⊥
  sent_away q v e mine sent begins within =
      no_errand start text gone later removed x v asked begins knows within token needed sent.outcome sent.work sent.gives
      (given start text gone later removed x v asked begins knows within token needed sent.outcome
      (subst (λ (c : Asked). IsGiven start v c sent.outcome) (its_call q sent.asked mine sent.read) sent.given))

  let_away : (q : Request) (v : Visit) (a : Asking) → q ≡ request → IsLet start q v a → IsPrefix x.pass.seen v.before → IsPrefix v.before (gone ++ later) → ⊥
  let_away q v a mine h begins within =
      no_leave start text gone later removed x v asked begins knows within token needed h.outcome h.gave h.asked h.way h.said h.goes
      (given start text gone later removed x v asked begins knows within token needed h.outcome
      (subst (λ (c : Asked). IsGiven start v c h.outcome) (its_call q h.asked mine h.read) h.given))

  reply_away : (q : Request) (v : Visit) (r : Reply) → q ≡ request → IsAnswered start q v r → IsPrefix x.pass.seen v.before → IsPrefix v.before (gone ++ later)
      → (v.after ≡ v.before) × IsTokenRefusal asked (length v.after) r
  reply_away q v r mine h begins within =
      told_reply start text gone later removed x v asked begins knows within token needed h.outcome r h.said
      (given start text gone later removed x v asked begins knows within token needed h.outcome
      (subst (λ (c : Asked). IsGiven start v c h.outcome) (its_call q h.asked mine h.read) h.given))

  left_so : (q : Request) (v : Visit) → q ≡ request → LeavesNoWork start q v → IsPrefix x.pass.seen v.before → IsPrefix v.before (gone ++ later) → v.after ≡ v.before
  left_so q v mine (inl same) begins within = same
  left_so q v mine (inr (r, h)) begins within = (reply_away q v r mine h begins within).0

  pub turned_away : (turn : Turn) → TurnAt start left (bytes ++ more) turn rest → Moves x turn y → StandsIn (gone ++ later) turn → IsTurnedAway asked turn
  turned_away (visited t q v r) at moves within =
      reply_away q v r (its_turn one start left bytes more rest request (visited t q v r) is at) at.0.1 moves.begins within
  turned_away (worked t q v e r) at moves within =
      sent_away q v e (its_turn one start left bytes more rest request (worked t q v e r) is at) at.0.1.sent moves.1.begins within
  turned_away (routed t q v a r) at moves within =
      let_away q v a (its_turn one start left bytes more rest request (routed t q v a r) is at) at.0.1.let_by moves.1.begins within
  turned_away (declined t q e) at moves within = tt
  turned_away (undrawn t q) at moves within = tt
  turned_away (refused e) at moves within = tt
  turned_away (unsaid t q v) at moves within =
      left_so q v (its_turn one start left bytes more rest request (unsaid t q v) is at) at.1.left moves.begins within
  turned_away (unfinished t q v e) at moves within =
      sent_away q v e (its_turn one start left bytes more rest request (unfinished t q v e) is at) at.1 moves.1.begins within
  turned_away (unrouted t q v a) at moves within =
      let_away q v a (its_turn one start left bytes more rest request (unrouted t q v a) is at) at.1 moves.1.begins within
  turned_away wanting at moves within = tt
