-- The visit of an ask whose bytes are one request.
use Rattle.std.proofs.Common.{◌≡◌, inl, inr, ℕ, Bool, true, false, List, length, Option, Some, None, Result, Ok, sym, ap, ◌∙◌, subst}
use Rattle.http_wire.specs.declared.request.Request.{Request}
use Rattle.hub_api.specs.Calls.{call_read}
use Rattle.hub_api.specs.Refusals.{no_draw}
use Rattle.hub_api.specs.declared.refusal.ApiRefusal.{ApiRefusal}
use Rattle.hub_core.specs.History.{Answers, change_of}
use Rattle.hub_core.specs.Visits.{with_entry}
use Rattle.hub_core.specs.declared.start.Start.{Start}
use Rattle.hub_machine.specs.Answers.{outcome_view}
use Rattle.hub_machine.specs.Draws.{draws}
use Rattle.hub_machine.specs.Replies.{Answer, Reply, Outcome, refuses, refuses_with, gives, changes, works, answered, working, outcome_of}
use Rattle.hub_machine.specs.State.{Hub}
use Rattle.hub_machine.specs.declared.call.Asked.{Asked}
use Rattle.hub_machine.specs.declared.change.Change.{Change}
use Rattle.hub_machine.specs.declared.reply.Outcome as out
use Rattle.hub_machine.specs.declared.work.Work.{Work}
use Rattle.hub_run.specs.Complete.{IsOf}
use Rattle.hub_run.specs.Routed.{way_of, lets}
use Rattle.hub_run.specs.Turns.{Turn, View, Visit, Visits, Errand, Moves, IsRight, IsAnswered, IsSent, IsLet, IsGiven, IsDrawn, turn_text, visited, worked, declined, undrawn, refused, unsaid, unfinished, wanting, routed, unrouted}
use Rattle.reply_texts.specs.ReplyText.{reply_text}
use Rattle.direct_link.specs.Answered.{IsTurnOf}
use Rattle.direct_link.proofs.Judging.{ChangesNothing, not_let, read_both, read_of}

-- what a visit gave to a call, and the bytes that said it
pub record Gave (start : Start) (x : View) (asked : Asked) (bytes : List ℕ) (y : View) : Type 0 where
  pub visit : Visit
  pub reply : Reply
  pub outcome : out.Outcome
  pub visits : Visits x visit y
  pub drawn : IsDrawn visit asked
  pub given : IsGiven start visit asked outcome
  pub said : outcome_view outcome ≡ answered reply
  pub is : bytes ≡ reply_text reply true

-- no answer to the call gives work
abbrev pub NeverWorks : Asked → Type 0
NeverWorks asked =
    (s : Hub) (now : ℕ) (draw : Option (List ℕ)) (a : Answer) → Answers s now draw asked a → (n : ℕ) (w : Work) → working w ≡ outcome_of n a → ⊥

same_ask : (a b : Asked) (r : Result Asked ApiRefusal) → r ≡ Ok a → r ≡ Ok b → a ≡ b
same_ask a b r one two = cc

works_not : (w : Work) (r : Reply) (o : Outcome) → o ≡ working w → o ≡ answered r → ⊥
works_not w r o one two = cc

module _ (start : Start) (asked : Asked) (calm : NeverWorks asked) where
  -- such a call is never sent out
  not_sent : (q : Request) (v : Visit) (e : Errand) → call_read q ≡ Ok asked → IsSent start q v e → ⊥
  not_sent q v e read is = by is.given
    where
      same : is.asked ≡ asked
      same = same_ask is.asked asked (call_read q) is.read read

      by : IsGiven start v is.asked is.outcome → ⊥
      by (inl at) =
          calm at.state v.moment v.draw at.answer (subst (λ (c : Asked). Answers at.state v.moment v.draw c at.answer) same at.answers)
          (length v.after) is.work (sym is.gives ∙ at.outcome)
      by (inr at) = works_not is.work _ (outcome_view is.outcome) is.gives at.outcome

  pub gave_of : (x y : View) (q : Request) (bytes : List ℕ) → call_read q ≡ Ok asked → way_of asked.call ≡ None
      → (draws asked.call ≡ true → bytes ≡ reply_text no_draw true → ⊥) → IsTurnOf start x q bytes y → Gave start x asked bytes y
  gave_of x y q bytes read apart drawn turned = by turned.turn turned.of turned.right turned.moves turned.said
    where
      by : (t : Turn) → IsOf q t → IsRight start t → Moves x t y → bytes ≡ turn_text t true → Gave start x asked bytes y
      by (visited text p v r) of right moves said =
          let answers : IsAnswered start p v r = right.1 in
          let same : answers.asked ≡ asked = same_ask answers.asked asked (call_read p) answers.read (read_of p q asked of read) in
          record {
            visit = v;
            reply = r;
            outcome = answers.outcome;
            visits = moves;
            drawn = subst (λ (c : Asked). IsDrawn v c) same answers.drawn;
            given = subst (λ (c : Asked). IsGiven start v c answers.outcome) same answers.given;
            said = answers.said;
            is = said;
          }
      by (worked text p v e r) of right moves said = absurd (not_sent p v e (read_of p q asked of read) (right.1).sent)
      by (routed text p v a r) of right moves said =
          let asks : IsLet start p v a = (right.1).let_by in
          let same : asks.asked ≡ asked = same_ask asks.asked asked (call_read p) asks.read (read_of p q asked of read) in
          absurd (not_let asked.call asks.gave asks.way apart (subst (λ (c : Asked). lets c.call asks.gave ≡ Some asks.way) same asks.goes))
      by (declined text p e) of right moves said = absurd (read_both (call_read p) asked e (read_of p q asked of read) right.1)
      by (undrawn text p) of right moves said =
          let same : (right.1).asked ≡ asked = same_ask (right.1).asked asked (call_read p) (right.1).read (read_of p q asked of read) in
          absurd (drawn (ap (λ (c : Asked). draws c.call) (sym same) ∙ (right.1).draws) said)
      by (refused e) of right moves said = absurd of
      by (unsaid text p v) of right moves said = absurd right
      by (unfinished text p v e) of right moves said = absurd right
      by (unrouted text p v a) of right moves said = absurd right
      by wanting of right moves said = absurd right

-- ---- calls that change nothing

works_nothing : (a : Answer) (n : ℕ) (w : Work) → change_of a ≡ None → working w ≡ outcome_of n a → ⊥
works_nothing (refuses r) n w none is = cc
works_nothing (refuses_with c r) n w none is = cc
works_nothing (gives g) n w none is = cc
works_nothing (changes c g) n w none is = cc
works_nothing (works c w') n w none is = cc

pub calm_of : (asked : Asked) → ChangesNothing asked → NeverWorks asked
calm_of asked nothing = λ s now draw a answers n w is. works_nothing a n w (nothing s now draw a answers) is

-- no entry was noted of it
pub unnoted_of : (start : Start) (x y : View) (asked : Asked) (bytes : List ℕ) → ChangesNothing asked → Gave start x asked bytes y → x.pass.alone ≡ true
    → y.pass.seen ≡ x.pass.seen
unnoted_of start x y asked bytes nothing gave alone =
    (gave.visits).seen ∙ (by gave.given ∙ (gave.visits).whole alone)
  where
    by : IsGiven start gave.visit asked gave.outcome → (gave.visit).after ≡ (gave.visit).before
    by (inl at) =
        at.noted
        ∙ ap (λ (o : Option Change). with_entry o (gave.visit).before)
        (nothing at.state (gave.visit).moment (gave.visit).draw at.answer at.answers)
    by (inr at) = at.noted

-- the same of a turn
pub quiet_turn : (start : Start) (x y : View) (q : Request) (bytes : List ℕ) (asked : Asked) → call_read q ≡ Ok asked → draws asked.call ≡ false
    → ChangesNothing asked → way_of asked.call ≡ None → IsTurnOf start x q bytes y → x.pass.alone ≡ true → y.pass.seen ≡ x.pass.seen
quiet_turn start x y q bytes asked read undraws nothing apart turned alone =
    unnoted_of start x y asked bytes nothing
    (gave_of start asked (calm_of asked nothing) x y q bytes read apart (λ drawn is. never (draws asked.call) undraws drawn) turned) alone
  where
    never : (b : Bool) → b ≡ false → b ≡ true → ⊥
    never b one two = cc
