-- What a visit gives stands at a place of the book's history.
use Rattle.std.proofs.Common.{◌≡◌, ℕ, List, [], ◌∷◌, Option, refl, sym, ◌∙◌, ap, ◌⊎◌, inl, inr}
use Rattle.std.specs.Prelude.{Some, None, Result, Ok, Err}
use Rattle.std.proofs.lemmas.List.{append-nil}
use mathlib.Core.List.{IsPrefix}
use Rattle.hub_machine.specs.State.{Hub}
use Rattle.hub_machine.specs.Replies as spec
use Rattle.hub_machine.specs.Replies.{Answer, answered, outcome_of, refusal_reply}
use Rattle.hub_core.specs.History.{Answers, change_of}
use Rattle.hub_core.specs.Visits.{Standing, Entry, Gave, Faulted, Reached, Visited, AnsweredAt, FaultedAt, VisitedAt, noted, with_entry}
use Rattle.hub_core.specs.Carrying.{Carrier, Carried, Did, Undid, long_after}
use Rattle.hub_core.specs.declared.start.Start.{Start}
use Rattle.hub_machine.specs.declared.call.Asked.{Asked}
use Rattle.hub_machine.specs.declared.change.Change.{Change}
use Rattle.hub_machine.specs.declared.refusal.Refusal.TheVariants.{KeeperFault}
use Rattle.hub_machine.specs.declared.reply.Outcome.{Outcome}

noted_length : (ch : Option Change) (s : Hub) → (noted ch s).length ≡ long_after ch s.length
noted_length None s = refl
noted_length (Some c) s = refl

-- what is said of an answer is said at the length that its change leaves
abbrev pub says_of : Answer → Hub → spec.Outcome
says_of a s = outcome_of (long_after (change_of a) s.length) a

said_after : (a : Answer) (s s' : Hub) → s' ≡ noted (change_of a) s → says_of a s ≡ outcome_of s'.length a
said_after a s s' hub = ap (λ n. outcome_of n a) (sym (noted_length (change_of a) s) ∙ ap (λ (x : Hub). x.length) (sym hub))

placed : (start : Start) (now : ℕ) (draw : Option (List ℕ)) (asked : Asked) (a : Answer) (o : Outcome) (b b' : Carrier)
    → Answers b.hub now draw asked a → Reached start b.told b.hub → Reached start b'.told b'.hub
    → Did (change_of a) (says_of a b.hub) o b b' ⊎ Undid (change_of a) o b b'
    → AnsweredAt start b.told b'.told now draw asked o ⊎ FaultedAt start b.told b'.told b.faults b'.faults now draw asked o
placed start now draw asked a o b b' answers r r' carried =
    elim carried as (λ _. AnsweredAt start b.told b'.told now draw asked o ⊎ FaultedAt start b.told b'.told b.faults b'.faults now draw asked o) [
      | inl d ↦ inl (record {
        state = b.hub;
        reached = r;
        answer = a;
        answers = answers;
        noted = d.telling;
        outcome = d.said ∙ said_after a b.hub b'.hub d.hub ∙ ap (λ n. outcome_of n a) r'.length;
      })
      | inr u ↦ inr (record {
        state = b.hub;
        reached = r;
        answer = a;
        change = u.change;
        answers = answers;
        has = u.has;
        commits = u.commits;
        noted = u.stays.telling;
        outcome = u.said ∙ ap (λ (x : Hub). answered (refusal_reply x.length KeeperFault)) (sym u.stays.hub) ∙ ap (λ n. answered (refusal_reply n KeeperFault)) r'.length;
        rises = u.rises;
      })
    ]

-- what a carried answer may change of a book
abbrev pub carrier : Standing → (since : ℕ) → Carrier
carrier b since = record { hub = b.hub; told = b.told; stamp = b.stamp; since = since; faults = b.faults }

gave : (b b' : Standing) (since since' now : ℕ) (draw : Option (List ℕ)) (asked : Asked) (a : Answer) (o : Outcome) → Answers b.hub now draw asked a
    → Did (change_of a) (says_of a b.hub) o (carrier b since) (carrier b' since') ⊎ Undid (change_of a) o (carrier b since) (carrier b' since')
    → Gave b b' now draw asked o ⊎ Faulted b b' now draw asked o
gave b b' since since' now draw asked a o answers carried =
    elim carried as (λ _. Gave b b' now draw asked o ⊎ Faulted b b' now draw asked o) [
      | inl d ↦ inl (record {
        answer = a;
        answers = answers;
        hub = d.hub;
        told = d.telling;
        stamped = d.stamped;
        unasked = d.unasked;
        outcome = d.said ∙ said_after a b.hub b'.hub d.hub;
      })
      | inr u ↦ inr (record {
        answer = a;
        change = u.change;
        answers = answers;
        has = u.has;
        commits = u.commits;
        stays = record { hub = u.stays.hub; told = u.stays.telling; stamped = u.stays.stamped };
        outcome = u.said;
        rises = u.rises;
      })
    ]

-- whatever came of carrying the answer out
pub visited_of : {E : Type 0} (b b' : Standing) (since since' now : ℕ) (draw : Option (List ℕ)) (asked : Asked) (a : Answer) (r : Result Outcome E) → Answers b.hub now draw asked a
    → Carried (change_of a) (says_of a b.hub) r (carrier b since) (carrier b' since') → Visited b now draw asked r b'
visited_of b b' since since' now draw asked a (Ok o) answers carried = gave b b' since since' now draw asked a o answers carried
visited_of b b' since since' now draw asked a (Err e) answers carried = record { hub = carried.hub; told = carried.telling; stamped = carried.stamped }

pub visited_at : {E : Type 0} (start : Start) (now : ℕ) (draw : Option (List ℕ)) (asked : Asked) (a : Answer) (r : Result Outcome E) (b b' : Carrier)
    → Answers b.hub now draw asked a → Reached start b.told b.hub → Reached start b'.told b'.hub → Carried (change_of a) (says_of a b.hub) r b b'
    → VisitedAt start b.told b'.told b.faults b'.faults now draw asked r
visited_at start now draw asked a (Ok o) b b' answers r r' carried = placed start now draw asked a o b b' answers r r' carried
visited_at start now draw asked a (Err e) b b' answers r r' carried = carried.telling

-- ---- a visit only appends

pub appends : (ch : Option Change) (before after : List Entry) → after ≡ with_entry ch before → IsPrefix before after
appends None before after e = ([], append-nil before ∙ sym e)
appends (Some c) before after e = (c ∷ [], sym e)

more : (start : Start) (before after : List Entry) (faults faults' : ℕ) (now : ℕ) (draw : Option (List ℕ)) (asked : Asked) (o : Outcome)
    → AnsweredAt start before after now draw asked o ⊎ FaultedAt start before after faults faults' now draw asked o → IsPrefix before after
more start before after faults faults' now draw asked o v = elim v as (λ _. IsPrefix before after) [
  | inl a ↦ appends (change_of a.answer) before after a.noted
  | inr f ↦ ([], append-nil before ∙ sym f.noted)
]

pub visited_appends : {E : Type 0} (start : Start) (before after : List Entry) (faults faults' : ℕ) (now : ℕ) (draw : Option (List ℕ)) (asked : Asked) (r : Result Outcome E)
    → VisitedAt start before after faults faults' now draw asked r → IsPrefix before after
visited_appends start before after faults faults' now draw asked (Ok o) v = more start before after faults faults' now draw asked o v
visited_appends start before after faults faults' now draw asked (Err e) v = ([], append-nil before ∙ sym v)

-- ---- the entries say which state they lead to

pub one_state : (start : Start) (before : List Entry) (s t : Hub) → Reached start before s → Reached start before t → s ≡ t
one_state start before s t here there = here.state ∙ sym there.state

pub at_opening : (start : Start) (s : Hub) → Reached start [] s → s ≡ start.machine
at_opening start s r = r.state
