-- A visit keeps a book's history and its state together.
use Rattle.std.proofs.Common.{◌≡◌, ◌+◌, List, [], ◌∷◌, ◌++◌, Option, refl, sym, ◌∙◌, ap, subst, inl, inr, length-append}
use Rattle.std.specs.Prelude.{ℕ, Some, None, Result, Ok, Err}
use Rattle.hub_machine.specs.State.{Hub}
use Rattle.hub_machine.specs.Apply.{apply}
use Rattle.hub_machine.specs.Replies as spec
use Rattle.hub_machine.specs.Replies.{Answer}
use Rattle.hub_core.specs.History.{Answers, IsEntry, IsLegal, state_after, change_of}
use Rattle.hub_core.specs.Visits.{Entry, Reached, noted, with_entry}
use Rattle.hub_core.specs.Carrying.{Carrier, Carried}
use Rattle.hub_core.specs.declared.start.Start.{Start}
use Rattle.hub_machine.specs.declared.call.Asked.{Asked}
use Rattle.hub_machine.specs.declared.change.Change.{Change}
use Rattle.hub_machine.specs.declared.reply.Outcome.{Outcome}

legal_more : (s : Hub) (h : List Change) (c : Change) → IsLegal s h → IsEntry (state_after s h) c → IsLegal s (h ++ c ∷ [])
legal_more s [] c legal entry = (entry, tt)
legal_more s (d ∷ h) c legal entry = (legal.0, legal_more (apply d s) h c legal.1 entry)

state_more : (s : Hub) (h : List Change) (c : Change) → state_after s (h ++ c ∷ []) ≡ apply c (state_after s h)
state_more s [] c = refl
state_more s (d ∷ h) c = state_more (apply d s) h c

-- the entries lead to the state after the last of them
pub reached_more : (start : Start) (h : List Entry) (s : Hub) (c : Change) → Reached start h s → IsEntry s c → Reached start (h ++ c ∷ []) (apply c s)
reached_more start h s c r entry = record {
  legal = let P : Hub → Type 0 = λ x. IsEntry x c in legal_more start.machine h c r.legal (subst P r.state entry);
  state = ap (apply c) r.state ∙ sym (state_more start.machine h c);
  length = ap (λ n. n + 1) r.length ∙ sym (length-append h (c ∷ []));
}

reached_after : (start : Start) (h : List Entry) (s : Hub) (ch : Option Change) → ((c : Change) → ch ≡ Some c → IsEntry s c) → Reached start h s
    → Reached start (with_entry ch h) (noted ch s)
reached_after start h s None entry r = r
reached_after start h s (Some c) entry r = reached_more start h s c r (entry c refl)

pub moved : (start : Start) (h h' : List Entry) (s s' : Hub) → s' ≡ s → h' ≡ h → Reached start h s → Reached start h' s'
moved start h h' s s' hub telling r = subst (λ (x : List Entry). Reached start x s') (sym telling) (subst (λ (x : Hub). Reached start h x) (sym hub) r)

pub reached_carried : {E : Type 0} (start : Start) (now : ℕ) (draw : Option (List ℕ)) (asked : Asked) (a : Answer) (says : spec.Outcome) (r : Result Outcome E) (b b' : Carrier)
    → Answers b.hub now draw asked a → Reached start b.told b.hub → Carried (change_of a) says r b b' → Reached start b'.told b'.hub
reached_carried start now draw asked a says (Ok o) b b' answers r carried =
    elim carried as (λ _. Reached start b'.told b'.hub) [
      | inl d ↦ moved start (with_entry (change_of a) b.told) b'.told (noted (change_of a) b.hub) b'.hub d.hub d.telling
          (reached_after start b.told b.hub (change_of a) (λ c e. inl (record { now = now; draw = draw; asked = asked; answer = a; answers = answers; change = e })) r)
      | inr u ↦ moved start b.told b'.told b.hub b'.hub u.stays.hub u.stays.telling r
    ]
reached_carried start now draw asked a says (Err e) b b' answers r carried = moved start b.told b'.told b.hub b'.hub carried.hub carried.telling r

-- ---- at opening

pub reached_opening : (start : Start) (h : List Entry) (hub : Hub) → start.machine ≡ hub → hub.length ≡ 0 → h ≡ [] → Reached start h hub
reached_opening start h hub same fresh none = subst (λ (x : List Entry). Reached start x hub) (sym none) (record { legal = tt; state = sym same; length = fresh })
