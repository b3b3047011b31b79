-- Requests get their turns and their answers, and each 503 is counted.
use Rattle.std.proofs.Common.{◌≡◌, inl, inr, ⊎_elim, ◌<◌, ◌⊎◌, ◌+◌, ◌-◌, ◌^◌, ◌++◌, ◌∷◌, ℕ, Bool, false, List, [], length, Option, Some, None, Result, Ok, Err, refl, sym, ap, ◌∙◌, subst, lt-ltb, arith, if◌then◌else◌}
use Rattle.std.proofs.lemmas.List.{append-nil}
use Rattle.http_wire.specs.Body.{RequestRefusedAt, NoBody}
use Rattle.http_wire.specs.Request.{IsRequestText, body_due_of}
use Rattle.http_wire.specs.Requests.{RequestNext, BodyRefused}
use Rattle.http_wire.specs.declared.error.WireError.{WireError}
use Rattle.http_wire.specs.declared.error.WireError.TheVariants as wire
use Rattle.http_wire.specs.declared.request.Request.{Request}
use Rattle.hub_api.specs.Calls.{call_read}
use Rattle.hub_api.specs.Refusals.{wire_refusal}
use Rattle.hub_api.specs.declared.refusal.ApiRefusal.{ApiRefusal}
use Rattle.hub_core.specs.History.{Answers, change_of}
use Rattle.hub_core.specs.Visits.{Entry, Reached, with_entry}
use Rattle.hub_core.specs.declared.start.Start.{Start}
use Rattle.hub_core.proofs.Statuses.{never_503}
use Rattle.hub_machine.specs.Replies.{Reply, Answer, answered, working, outcome_of, refusal_reply}
use Rattle.hub_machine.specs.Answers.{outcome_view}
use Rattle.hub_machine.specs.State.{Hub}
use Rattle.hub_machine.specs.declared.reply.Outcome.{Outcome}
use Rattle.hub_machine.specs.declared.call.Asked.{Asked}
use Rattle.hub_machine.specs.declared.refusal.Refusal.TheVariants.{KeeperFault}
use Rattle.hub_machine.specs.declared.work.Work as owed
use Rattle.hub_run.specs.Complete.{IsOf, IsDue, IsDone, IsUndone, IsSetOut, IsServed, IsLetOn, IsWithoutWork, is_work}
use Rattle.hub_run.specs.Turns.{Turn, View, Visit, Visits, Errand, visited, worked, declined, undrawn, refused, unsaid, unfinished, wanting, routed, unrouted, TurnAt, IsLet, IsRouted, IsDrawn, IsGiven, IsAnswered, IsSent, IsWorked, LeavesNoWork, Moves, Turns}
use Rattle.hub_run.specs.Routed.{Asking, IsSaidOf, lets}
use Rattle.hub_run.specs.declared.routed.Way.{Way}
use Rattle.hub_run.proofs.CountLemmas.{between, never_risen}
use Rattle.hub_run.proofs.RoutedLemmas.{keeper_stops}

-- what the wire knows: one thing stands next
abbrev pub NextIsOne : Type 0
NextIsOne = (stream : List ℕ) (a b : Result Request WireError) → RequestNext stream a → RequestNext stream b → a ≡ b

abbrev Next : Type 0
Next = Result Request WireError

abbrev found : Request → Next
found q = Ok q

abbrev missed : WireError → Next
missed e = Err e

same_request : (q request : Request) → found q ≡ found request → q ≡ request
same_request q request e = cc

not_refused : (e : WireError) (request : Request) → missed e ≡ found request → ⊥
not_refused e request is = cc

-- a refusal that is answered stands next on all that came
refused_next : (left : Option (List ℕ)) (bytes : List ℕ) (e : WireError) (r : Reply) → wire_refusal e ≡ Some r → RequestRefusedAt left bytes e → RequestNext bytes (Err e)
refused_next left bytes wire.BadHead r is (inl (short, at)) = inl (bytes, [], sym (append-nil bytes), short, at)
refused_next left bytes (wire.TooLarge n) r is (inl (short, at)) = inl (bytes, [], sym (append-nil bytes), short, at)
refused_next left bytes wire.Coding r is (inl (short, at)) = absurd at
refused_next left bytes wire.BadHead r is (inr (h, behind, served, stands, at)) =
    inr (h, behind, served, stands, bad_head (body_due_of h) at)
  where
    bad_head : (due : Result ℕ WireError) → NoBody due left behind wire.BadHead → BodyRefused due behind wire.BadHead
    bad_head (Ok n) bad = bad
    bad_head (Err refusal) bad = bad
refused_next left bytes (wire.TooLarge n) r is (inr (h, behind, served, stands, at)) =
    inr (h, behind, served, stands, large (body_due_of h) at)
  where
    large : (due : Result ℕ WireError) → NoBody due left behind (wire.TooLarge n) → BodyRefused due behind (wire.TooLarge n)
    large (Ok m) bad = bad
    large (Err refusal) bad = bad
refused_next left bytes wire.Coding r is (inr (h, behind, served, stands, at)) =
    inr (h, behind, served, stands, coded (body_due_of h) at)
  where
    coded : (due : Result ℕ WireError) → NoBody due left behind wire.Coding → BodyRefused due behind wire.Coding
    coded (Ok n) bad = bad
    coded (Err refusal) bad = bad
refused_next left bytes wire.Ended r is at = absurd (cc)
refused_next left bytes wire.Cut r is at = absurd (cc)
refused_next left bytes wire.ReadFault r is at = absurd (cc)
refused_next left bytes wire.Memory r is at = absurd (cc)

pub its_turn : NextIsOne → (start : Start) (left : Option (List ℕ)) (text more rest : List ℕ) (request : Request) (turn : Turn)
    → IsRequestText request text → TurnAt start left (text ++ more) turn rest → IsOf request turn
its_turn one start left text more rest request (visited text' q v r) is at =
    same_request q request (one (text ++ more) (Ok q) (Ok request) (text', rest, at.0.0, at.1) (text, more, is, refl))
its_turn one start left text more rest request (worked text' q v e r) is at =
    same_request q request (one (text ++ more) (Ok q) (Ok request) (text', rest, at.0.0, at.1) (text, more, is, refl))
its_turn one start left text more rest request (declined text' q e) is at =
    same_request q request (one (text ++ more) (Ok q) (Ok request) (text', rest, at.0.0, at.1) (text, more, is, refl))
its_turn one start left text more rest request (undrawn text' q) is at =
    same_request q request (one (text ++ more) (Ok q) (Ok request) (text', rest, at.0.0, at.1) (text, more, is, refl))
its_turn one start left text more rest request (refused e) is at =
    not_refused e request (one (text ++ more) (Err e) (Ok request) (refused_next left (text ++ more) e at.0 at.2 at.5) (text, more, is, refl))
its_turn one start left text more rest request (unsaid text' q v) is at =
    same_request q request (one (text ++ more) (Ok q) (Ok request) (text', rest, at.0, at.2) (text, more, is, refl))
its_turn one start left text more rest request (unfinished text' q v e) is at =
    same_request q request (one (text ++ more) (Ok q) (Ok request) (text', rest, at.0, at.2) (text, more, is, refl))
its_turn one start left text more rest request (routed text' q v a r) is at =
    same_request q request (one (text ++ more) (Ok q) (Ok request) (text', rest, at.0.0, at.1) (text, more, is, refl))
its_turn one start left text more rest request (unrouted text' q v a) is at =
    same_request q request (one (text ++ more) (Ok q) (Ok request) (text', rest, at.0, at.2) (text, more, is, refl))
its_turn one start left text more rest request wanting is at = _

-- ---- the answer

-- what the machine knows: one state is reached by entries, and one answer is given in it
abbrev pub StateIsOne : Type 0
StateIsOne = (start : Start) (before : List Entry) (s s' : Hub) → Reached start before s → Reached start before s' → s ≡ s'

abbrev pub AnswerIsOne : Type 0
AnswerIsOne = (s : Hub) (now : ℕ) (draw : Option (List ℕ)) (asked : Asked) (a b : Answer) → Answers s now draw asked a → Answers s now draw asked b → a ≡ b

same_asked : (a b : Asked) (e : Result Asked ApiRefusal) → e ≡ Ok a → e ≡ Ok b → a ≡ b
same_asked a b e first second = cc

same_reply : (a b : Reply) → answered a ≡ answered b → a ≡ b
same_reply a b e = cc

-- an answer in a state that the entries before the visit left is the one that is due
due_answer : StateIsOne → AnswerIsOne → (start : Start) (request : Request) (v : Visit) (state : Hub) (call : Asked) (r a : Answer)
    → Reached start v.before state → Answers state v.moment v.draw call r → call_read request ≡ Ok call → IsDue start request v a → r ≡ a
due_answer states answers start request v state call r a reached given read due =
    let here : state ≡ due.state = states start v.before state due.state reached due.reached in
    let asks : call ≡ due.asked = same_asked call due.asked (call_read request) read due.read in
    let there : Answers due.state v.moment v.draw due.asked r = subst (λ (c : Asked). Answers due.state v.moment v.draw c r) asks
    (subst (λ (s : Hub). Answers s v.moment v.draw call r) here given) in
    answers due.state v.moment v.draw due.asked r a there due.answers

given_answer : StateIsOne → AnswerIsOne → (start : Start) (request : Request) (v : Visit) (call : Asked) (o : Outcome) (r : Reply) (a : Answer)
    → call_read request ≡ Ok call → outcome_view o ≡ answered r → IsGiven start v call o → IsDue start request v a → IsDone v r a ⊎ IsUndone v r a
given_answer states answers start request v call o r a read viewed (inl at) due =
    let is = due_answer states answers start request v at.state call at.answer a at.reached at.answers read due in
    inl (record {
      entry = at.noted ∙ ap (λ (b : Answer). with_entry (change_of b) v.before) is;
      reply = sym viewed ∙ (at.outcome ∙ ap (λ (b : Answer). outcome_of (length v.after) b) is);
    })
given_answer states answers start request v call o r a read viewed (inr at) due =
    let is = due_answer states answers start request v at.state call at.answer a at.reached at.answers read due in
    inr (record {
      change = at.change;
      has = ap change_of (sym is) ∙ at.has;
      entry = at.noted;
      reply = same_reply r (refusal_reply (length v.after) KeeperFault) (sym viewed ∙ at.outcome);
      rises = at.rises;
    })

pub its_answer : StateIsOne → AnswerIsOne → (start : Start) (request : Request) (v : Visit) (r : Reply) (a : Answer)
    → IsAnswered start request v r → IsDue start request v a → IsDone v r a ⊎ IsUndone v r a
its_answer states answers start request v r a h due = given_answer states answers start request v h.asked h.outcome r a h.read h.said h.given due

-- what a visit whose reply wasn't said has left is no work
pub its_loss : StateIsOne → AnswerIsOne → (start : Start) (request : Request) (v : Visit) (a : Answer)
    → LeavesNoWork start request v → IsDue start request v a → IsWithoutWork v a
its_loss states answers start request v a (inl same) due = inl same
its_loss states answers start request v a (inr (r, h)) due =
    ⊎_elim (λ done. inr (r, done)) (λ undone. inl undone.entry) (its_answer states answers start request v r a h due)

no_work : (w : owed.Work) (r : Reply) → working w ≡ answered r → ⊥
no_work w r e = cc

-- the work that a visit gave is the one that is due
given_work : StateIsOne → AnswerIsOne → (start : Start) (request : Request) (v : Visit) (call : Asked) (o : Outcome) (work : owed.Work) (a : Answer)
    → call_read request ≡ Ok call → outcome_view o ≡ working work → IsGiven start v call o → IsDue start request v a
    → (v.after ≡ with_entry (change_of a) v.before) × (working work ≡ outcome_of (length v.after) a)
given_work states answers start request v call o work a read viewed (inl at) due =
    let is = due_answer states answers start request v at.state call at.answer a at.reached at.answers read due in (
      at.noted ∙ ap (λ (b : Answer). with_entry (change_of b) v.before) is,
      sym viewed ∙ (at.outcome ∙ ap (λ (b : Answer). outcome_of (length v.after) b) is),
    )
given_work states answers start request v call o work a read viewed (inr at) due =
    absurd (no_work work (refusal_reply (length v.after) KeeperFault) (sym viewed ∙ at.outcome))

pub its_work : StateIsOne → AnswerIsOne → (start : Start) (request : Request) (v : Visit) (e : Errand) (a : Answer)
    → IsSent start request v e → IsDue start request v a → IsSetOut request v e a
its_work states answers start request v e a h due =
    let found = given_work states answers start request v h.asked h.outcome h.work a h.read h.gives h.given due in
    record { asked = h.asked; read = h.read; work = h.work; entry = found.0; gives = found.1; first = h.first; errand = h.errand }

-- the reply that let a call go on is that of the answer that is due
given_leave : StateIsOne → AnswerIsOne → (start : Start) (request : Request) (v : Visit) (call : Asked) (o : Outcome) (r : Reply) (way : Way) (a : Answer)
    → call_read request ≡ Ok call → outcome_view o ≡ answered r → lets call.call r ≡ Some way → IsGiven start v call o → IsDue start request v a
    → (v.after ≡ with_entry (change_of a) v.before) × (answered r ≡ outcome_of (length v.after) a)
given_leave states answers start request v call o r way a read viewed goes (inl at) due =
    let is = due_answer states answers start request v at.state call at.answer a at.reached at.answers read due in (
      at.noted ∙ ap (λ (b : Answer). with_entry (change_of b) v.before) is,
      sym viewed ∙ (at.outcome ∙ ap (λ (b : Answer). outcome_of (length v.after) b) is),
    )
given_leave states answers start request v call o r way a read viewed goes (inr at) due =
    absurd (keeper_stops call.call (length v.after) r way (same_reply r (refusal_reply (length v.after) KeeperFault) (sym viewed ∙ at.outcome)) goes)

pub its_leave : StateIsOne → AnswerIsOne → (start : Start) (request : Request) (v : Visit) (asking : Asking) (a : Answer)
    → (h : IsLet start request v asking) → IsDue start request v a → (let_on : IsLetOn request v asking a) × (let_on.gave ≡ h.gave)
its_leave states answers start request v asking a h due =
    let found = given_leave states answers start request v h.asked h.outcome h.gave h.way a h.read h.said h.goes h.given due in
    (record { asked = h.asked; read = h.read; entry = found.0; gave = h.gave; gives = found.1; way = h.way; goes = h.goes; asks = h.asks }, refl)

-- ---- a connection without faults

pub its_reply : NextIsOne → StateIsOne → AnswerIsOne → (start : Start) (x y : View) (before after : List Turn) (turn : Turn) (left : Option (List ℕ))
    (text more rest : List ℕ) (request : Request) → Turns x (before ++ turn ∷ after) y → y.pass.failed ≡ x.pass.failed
    → y.pass.faults < 2 ^ 64 - 1 → IsRequestText request text → TurnAt start left (text ++ more) turn rest → IsServed start request turn
its_reply one states answers start x y before after (visited text' q v r) left text more rest request turns same below is at =
    let mine : q ≡ request = its_turn one start left text more rest request (visited text' q v r) is at in (
      mine,
      λ a due. ⊎_elim (λ done. done)
          (λ undone. absurd (never_risen x y text' q v r (between x y before (visited text' q v r) after turns) same below undone.rises))
          (its_answer states answers start request v r a (subst (λ (p : Request). IsAnswered start p v r) mine at.0.1) due),
    )
its_reply one states answers start x y before after (worked text' q v e r) left text more rest request turns same below is at =
    let mine : q ≡ request = its_turn one start left text more rest request (worked text' q v e r) is at in
    let done : IsWorked start request v e r = subst (λ (p : Request). IsWorked start p v e r) mine at.0.1 in
    (mine, λ a due. record { set_out = its_work states answers start request v e a done.sent due; tale = done.tale; told = done.told; reply = done.reply })
its_reply one states answers start x y before after (routed text' q v asking r) left text more rest request turns same below is at =
    let mine : q ≡ request = its_turn one start left text more rest request (routed text' q v asking r) is at in
    let done : IsRouted start request v asking r = subst (λ (p : Request). IsRouted start p v asking r) mine at.0.1 in (
      mine,
      λ a due.
          let found = its_leave states answers start request v asking a done.let_by due in
          record { let_on = found.0; reply = subst (λ (g : Reply). IsSaidOf g asking r) (sym found.1) done.reply },
    )
its_reply one states answers start x y before after (declined text' q e) left text more rest request turns same below is at =
    let mine : q ≡ request = its_turn one start left text more rest request (declined text' q e) is at in
    (mine, subst (λ (p : Request). call_read p ≡ Err e) mine at.0.1)
its_reply one states answers start x y before after (undrawn text' q) left text more rest request turns same below is at =
    its_turn one start left text more rest request (undrawn text' q) is at
its_reply one states answers start x y before after (refused e) left text more rest request turns same below is at =
    its_turn one start left text more rest request (refused e) is at
its_reply one states answers start x y before after (unsaid text' q v) left text more rest request turns same below is at =
    let mine : q ≡ request = its_turn one start left text more rest request (unsaid text' q v) is at in
    (mine, λ a due. its_loss states answers start request v a (subst (λ (p : Request). LeavesNoWork start p v) mine at.1.left) due)
its_reply one states answers start x y before after (unfinished text' q v e) left text more rest request turns same below is at =
    let mine : q ≡ request = its_turn one start left text more rest request (unfinished text' q v e) is at in
    (mine, λ a due. its_work states answers start request v e a (subst (λ (p : Request). IsSent start p v e) mine at.1) due)
its_reply one states answers start x y before after (unrouted text' q v asking) left text more rest request turns same below is at =
    let mine : q ≡ request = its_turn one start left text more rest request (unrouted text' q v asking) is at in
    (mine, λ a due. (its_leave states answers start request v asking a (subst (λ (p : Request). IsLet start p v asking) mine at.1) due).0)
its_reply one states answers start x y before after wanting left text more rest request turns same below is at = _

-- ---- a 503

given_503 : (start : Start) (x y : View) (v : Visit) (call : Asked) (o : Outcome) (r : Reply) → IsDrawn v call → outcome_view o ≡ answered r → IsGiven start v call o
    → Visits x v y → r.status ≡ 503 → v.faults < 2 ^ 64 - 1 → (y.pass.failed ≡ x.pass.failed + 1) × (x.pass.faults < y.pass.faults)
given_503 start x y v call o r drawn viewed (inl at) visits is below =
    absurd (never_503 (length v.after) at.state v.moment v.draw call at.answer r (λ e. drawn ∙ e) at.answers (sym at.outcome ∙ viewed) is)
given_503 start x y v call o r drawn viewed (inr at) visits is below =
    let up = at.rises below in (
      visits.failed ∙ ap (λ (b : Bool). x.pass.failed + (if b then 1 else 0)) (lt-ltb v.faults v.faults_after up),
      omega (arith, visits.known, visits.count, up),
    )

pub counted : (start : Start) (x y : View) (request : Request) (v : Visit) (r : Reply)
    → IsAnswered start request v r → Visits x v y → r.status ≡ 503 → v.faults < 2 ^ 64 - 1
    → (y.pass.failed ≡ x.pass.failed + 1) × (x.pass.faults < y.pass.faults)
counted start x y request v r h visits is below = given_503 start x y v h.asked h.outcome r h.drawn h.said h.given visits is below

-- ---- calls

pub no_calls : (x y : View) (t : Turn) → Moves x t y → is_work t ≡ false → (y.spawner ≡ x.spawner) × (y.routes ≡ x.routes)
no_calls x y (visited text q v r) moves is = (moves.spawner, moves.routes)
no_calls x y (worked text q v e r) moves is = absurd (cc is)
no_calls x y (routed text q v a r) moves is = absurd (cc is)
no_calls x y (declined text q e) moves is = (ap (λ (z : View). z.spawner) moves, ap (λ (z : View). z.routes) moves)
no_calls x y (undrawn text q) moves is = (moves.spawner, moves.routes)
no_calls x y (refused e) moves is = (ap (λ (z : View). z.spawner) moves, ap (λ (z : View). z.routes) moves)
no_calls x y (unsaid text q v) moves is = (moves.spawner, moves.routes)
no_calls x y (unfinished text q v e) moves is = absurd (cc is)
no_calls x y (unrouted text q v a) moves is = absurd (cc is)
no_calls x y wanting (inl moves) is = (ap (λ (z : View). z.spawner) moves, ap (λ (z : View). z.routes) moves)
no_calls x y wanting (inr moves) is = (moves.spawner, moves.routes)
