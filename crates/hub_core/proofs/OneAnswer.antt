-- An asked call has one answer in a state.
use Rattle.std.proofs.Common.{◌≡◌, ℕ, Bool, true, false, not, cond, List, [], ◌∷◌, Option, refl, sym, ap, ◌∙◌}
use Rattle.std.specs.Prelude.{Some, None, IsTrue, codes}
use Rattle.hub_kit.specs.Hashes.{draw_text, hash_text}
use Rattle.scope_names.specs.declared.action.Action.{Action}
use Rattle.scope_filters.specs.declared.holder.Owner.TheVariants as Own
use Rattle.scope_filters.specs.Grants.{grant_admits}
use Rattle.scope_meet.specs.declared.inside.Inside.{Inside}
use Rattle.hub_rows.specs.declared.records.Token.{Token}
use Rattle.hub_tables.specs.Memberships.{members_of}
use Rattle.token_store.specs.Finding.{expired_tokens}
use Rattle.token_store.specs.Issuing.{is_hash_kept}
use Rattle.token_store.specs.declared.issuing.TokenAsk.{TokenAsk}
use Rattle.hub_view.specs.Fields.{Rights}
use Rattle.hub_tables.specs.State.{State}
use Rattle.hub_machine.specs.State.{Hub}
use Rattle.hub_machine.specs.Trails.{in_trail}
use Rattle.hub_machine.specs.Replies.{Answer, rules, if_so}
use Rattle.access_calls.specs.TokenCalls.{if_not_held, if_unknown, is_without_room, made, new_token, post_token}
use Rattle.hub_core.specs.Needs.{needs, needs_token, is_there}
use Rattle.hub_core.specs.Answer.{Judgement, answer, action_rules, if_no_client, if_there, row, by_nobody, by_token, caller, is_past, named}
use Rattle.hub_core.specs.Judged.{HeldOf, InsideOf, IsHeldBy, JudgesToken, JudgesCaller}
use Rattle.hub_core.specs.History.{Answers}
use Rattle.hub_core.specs.declared.need.Need.{Need}
use Rattle.hub_core.specs.declared.need.Need.TheVariants.{GoodToken, Held, On}
use Rattle.hub_machine.specs.declared.refusal.Refusal.TheVariants.{Exists, Full, SeenPast, Needs, NotFound}
use Rattle.hub_machine.specs.declared.call.Asked.{Asked}
use Rattle.hub_machine.specs.declared.call.Call.{Call}
use Rattle.hub_machine.specs.declared.call.Call.TheVariants.{PostToken}
use Rattle.hub_core.proofs.OneRefusal.{same_refusal}

same_truth : (b c : Bool) → (IsTrue b → IsTrue c) → (IsTrue c → IsTrue b) → b ≡ c
same_truth true true f g = refl
same_truth true false f g = sym (f refl)
same_truth false true f g = g refl
same_truth false false f g = refl

same_rights : (t : State) (k : Token) (call : Call) (j j' : Judgement) → JudgesToken t k call j → JudgesToken t k call j' → j.may ≡ j'.may
same_rights t k call j j' h h' = λ i a x. same_truth (j.may a x) (j'.may a x) (λ p. (h'.may a x).1 ((h.may a x).0 p)) (λ p. (h.may a x).1 ((h'.may a x).0 p)) i

same_held : (t : State) (k : Token) (a : Action) (b c : Bool) → HeldOf t k b (Held a) → HeldOf t k c (Held a) → b ≡ c
same_held t k a b c h h' = same_truth b c (λ p. h'.1 (h.0 p)) (λ p. h.1 (h'.0 p))

same_rules : (t : State) (k : Token) (need : Need) (j j' : Judgement) → j.may ≡ j'.may → HeldOf t k j.is_held need → HeldOf t k j'.is_held need → action_rules j need ≡ action_rules j' need
same_rules t k GoodToken j j' may h h' = refl
same_rules t k (Held a) j j' may h h' = let held = same_held t k a j.is_held j'.is_held h h' in λ i. if_so (not (held i)) (Needs a) ∷ []
same_rules t k (On a x) j j' may h h' =
    let held = same_held t k a j.is_held j'.is_held h h' in
    λ i. if_so (not (held i)) (Needs a) ∷ if_so (not (may i a x)) NotFound ∷ []

-- what an owner doesn't hold is refused alike
same_refused : (t : State) (ask : TokenAsk) (one other : Inside) → IsHeldBy t ask one → IsHeldBy t ask other → if_not_held one ≡ if_not_held other
same_refused t ask one other h h' =
    let M = members_of t.groups in
    same_refusal t (Own.User ask.owner) ask.scopes h.rights h'.rights one other
    (λ a x. same_truth (grant_admits M h.rights a x) (grant_admits M h'.rights a x) (λ p. (h'.exact a x).1 ((h.exact a x).0 p)) (λ p. (h.exact a x).1 ((h'.exact a x).0 p)))
    h.within h'.within

same_token : (s : Hub) (now : ℕ) (draw : Option (List ℕ)) (ask : TokenAsk) (one other : Inside) → if_not_held one ≡ if_not_held other → post_token s now draw one ask ≡ post_token s now draw other ask
same_token s now None ask one other e = refl
same_token s now (Some draw) ask one other e =
    let t = s.tables in
    let text = draw_text draw in
    let over = expired_tokens t now (Own.User ask.owner) in
    λ i. rules (if_unknown t ask ∷ e i ∷ if_so (is_hash_kept t (hash_text text)) (Exists (codes "token")) ∷ if_so (is_without_room t over) (Full 5 t.limits.tokens) ∷ [])
    (made (new_token t now text ask) over text)

same_row : (s : Hub) (may : Rights) (now : ℕ) (draw : Option (List ℕ)) (k : Token) (call : Call) (one other : Inside) → InsideOf s.tables call one → InsideOf s.tables call other
    → row s may one now draw k call ≡ row s may other now draw k call
same_row s may now draw k (PostToken ask) one other h h' = same_token s now draw ask one other (same_refused s.tables ask one other h h')
same_row s may now draw k _ one other h h' = refl

same_there : (s : Hub) (may may' : Rights) (now : ℕ) (draw : Option (List ℕ)) (k : Token) (call : Call) (one other : Inside) → may ≡ may' → InsideOf s.tables call one → InsideOf s.tables call other
    → if_there s may one now draw k call ≡ if_there s may' other now draw k call
same_there s may may' now draw k call one other e h h' =
    ap (λ (m : Rights). if_there s m one now draw k call) e
    ∙ ap (rules (if_so (not (is_there s.tables call)) NotFound ∷ [])) (same_row s may' now draw k call one other h h')

-- the answer, by the frame's tests and the token that is found
abbrev answer_by : Hub → ℕ → (draw : Option (List ℕ)) → Asked → Judgement → (past needed : Bool) → Option Token → Answer
answer_by s now draw asked j past needed k =
    rules (if_so past (SeenPast (named asked.seen) s.length) ∷ []) (in_trail s (cond needed (by_token s j now draw asked.call k) (by_nobody s now draw asked.call)))

same_by : (s : Hub) (now : ℕ) (draw : Option (List ℕ)) (asked : Asked) (j j' : Judgement) (past needed : Bool) (k : Option Token)
    → JudgesCaller s.tables asked.call j (cond past None (cond needed k None)) → JudgesCaller s.tables asked.call j' (cond past None (cond needed k None))
    → answer_by s now draw asked j past needed k ≡ answer_by s now draw asked j' past needed k
same_by s now draw asked j j' true needed k h h' = refl
same_by s now draw asked j j' false false k h h' = refl
same_by s now draw asked j j' false true None h h' = refl
same_by s now draw asked j j' false true (Some k) h h' =
    let may = same_rights s.tables k asked.call j j' h h' in
    let checks = same_rules s.tables k (needs asked.call) j j' may h.held h'.held in
    let there = same_there s j.may j'.may now draw k asked.call j.inside j'.inside may h.inside h'.inside in
    λ i. rules (if_so false (SeenPast (named asked.seen) s.length) ∷ []) (in_trail s (rules (if_no_client s.tables asked.call ∷ checks i) (there i)))

pub one_answer : (s : Hub) (now : ℕ) (draw : Option (List ℕ)) (asked : Asked) (r r' : Answer) → Answers s now draw asked r → Answers s now draw asked r' → r ≡ r'
one_answer s now draw asked r r' here there =
    here.is
    ∙ same_by s now draw asked here.judgement there.judgement (is_past s.length asked.seen) (needs_token asked.call) (caller s now asked) here.judged there.judged
    ∙ sym there.is
