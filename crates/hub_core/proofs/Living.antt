-- A step of a life keeps a book's history and its state together, and stands at a place of the history.
use Rattle.std.proofs.Common.{◌≡◌, ℕ, Bool, true, false, cond, List, Option, refl, sym, ◌∙◌, inr}
use Rattle.std.specs.Prelude.{Some, None, Result, Ok, Err, IsOk, OnErr}
use Rattle.std.specs.FinMap.{get}
use Rattle.server_life.specs.LifeTable.{row, or_refused, is_generation, generation_of, life_after}
use Rattle.server_life.specs.Lives.{is_outcome}
use Rattle.server_life.specs.declared.life.Life.{Life}
use Rattle.server_life.specs.declared.life.LifeEvent.{LifeEvent}
use Rattle.server_life.specs.declared.life.LifeEvent.TheVariants.{Ended, SpawnFailed, EndUnkept}
use Rattle.server_life.specs.declared.life.LifeRefusal.{LifeRefusal}
use Rattle.server_life.specs.declared.life.LifeRefusal.TheVariants.{OldGeneration, NotNow}
use Rattle.server_life.specs.declared.life.Phase.{Phase}
use Rattle.server_life.specs.declared.life.Phase.TheVariants.{Stopped, Adopting, Spawning, Routing, Ready, Unrouting, Stopping, Parked}
use Rattle.server_life.specs.declared.life.Todo.{Todo}
use Rattle.server_life.specs.declared.life.Todo.TheVariants.{Nothing}
use Rattle.hub_lives.specs.declared.lives.Leased.{Leased}
use Rattle.hub_machine.specs.State.{Hub}
use Rattle.hub_lives.specs.Lives.{LifeStep, step_of, step_at}
use Rattle.hub_machine.specs.Apply.{apply}
use Rattle.hub_machine.specs.Steps.{Steps, KeptAs, Owes, entry_of, noted_event, is_end}
use Rattle.hub_machine.specs.declared.step.Kept.{Kept as EndKept}
use Rattle.hub_machine.specs.declared.step.Kept.TheVariants as K
use Rattle.hub_machine.specs.declared.step.Step.{Step}
use Rattle.hub_core.specs.History.{IsOfLife}
use Rattle.hub_core.specs.Lived.{LivedAt}
use Rattle.hub_core.specs.Current.{IsStamped}
use Rattle.roles.specs.Looks.{Cache}
use Rattle.hub_core.proofs.Stamped.{stamped_stepped, stamped_same}
use Rattle.hub_core.specs.Visits.{Entry, Reached, with_entry}
use Rattle.hub_core.specs.declared.start.Start.{Start}
use Rattle.hub_core.proofs.Tied.{moved, reached_more}

-- ---- an end that a life takes is one that it takes unkept too, and neither owes a call

-- the event is taken, and nothing is owed then
abbrev TakesIt : LifeStep → Type 0
TakesIt (Ok next) = next.1 ≡ Nothing
TakesIt (Err e) = ⊥

abbrev BothTake : (taken unkept : LifeStep) → Type 0
BothTake (Ok next) unkept = (next.1 ≡ Nothing) × TakesIt unkept
BothTake (Err e) unkept = Unit {0}

true_false : true ≡ false → ⊥
true_false h = cc

end_rows_agree : (g : ℕ) (phase : Phase) (asked : Bool) (event : LifeEvent) → is_end event ≡ true
    → BothTake (or_refused (row g phase event asked) NotNow) (or_refused (row g phase EndUnkept asked) NotNow)
end_rows_agree g (Spawning h) asked SpawnFailed e = (refl, refl)
end_rows_agree g (Stopping h) asked Ended e = (refl, refl)
end_rows_agree g (Spawning h) asked Ended e = tt
end_rows_agree g (Stopping h) asked SpawnFailed e = tt
end_rows_agree g Stopped asked SpawnFailed e = tt
end_rows_agree g (Adopting h) asked SpawnFailed e = tt
end_rows_agree g (Routing h) asked SpawnFailed e = tt
end_rows_agree g (Ready h) asked SpawnFailed e = tt
end_rows_agree g (Unrouting h) asked SpawnFailed e = tt
end_rows_agree g (Parked h at) asked SpawnFailed e = tt
end_rows_agree g Stopped asked Ended e = tt
end_rows_agree g (Adopting h) asked Ended e = tt
end_rows_agree g (Routing h) asked Ended e = tt
end_rows_agree g (Ready h) asked Ended e = tt
end_rows_agree g (Unrouting h) asked Ended e = tt
end_rows_agree g (Parked h at) asked Ended e = tt
end_rows_agree g phase asked event e = absurd (true_false (sym e))

by_generation : (b : Bool) (g : ℕ) (phase : Phase) (asked : Bool) (event : LifeEvent) → is_end event ≡ true
    → BothTake (cond b (or_refused (row g phase event asked) NotNow) (Err (OldGeneration g))) (cond b (or_refused (row g phase EndUnkept asked) NotNow) (Err (OldGeneration g)))
by_generation true g phase asked event e = end_rows_agree g phase asked event e
by_generation false g phase asked event e = tt

unkept_too : (life : Life) (g : ℕ) (event : LifeEvent) → is_end event ≡ true → BothTake (life_after life g event) (life_after life g EndUnkept)
unkept_too life g Ended e = by_generation (is_generation g (generation_of life.phase)) g life.phase life.stop_asked Ended refl
unkept_too life g SpawnFailed e = by_generation (is_generation g (generation_of life.phase)) g life.phase life.stop_asked SpawnFailed refl
unkept_too life g event e = absurd (true_false (sym e))

unkept_of : (l : Option Leased) (g : ℕ) (event : LifeEvent) → is_end event ≡ true → BothTake (step_of l g event) (step_of l g EndUnkept)
unkept_of None g event e = tt
unkept_of (Some l) g event e = unkept_too l.life g event e

-- ---- the entry of a step is legal

taken : (step : LifeStep) (todo : Todo) → Owes step todo → IsOk step
taken (Ok next) todo h = refl
taken (Err e) todo h = absurd h

-- where the event is taken, so is this one
also : (step other : LifeStep) (todo : Todo) → Owes step todo → BothTake step other → Owes other todo
also (Ok next) (Ok other) todo h b = b.1 ∙ sym b.0 ∙ h
also (Ok next) (Err e) todo h b = absurd b.1
also (Err e) other todo h b = absurd h

-- the life takes what is noted of an outcome that it takes, and then owes the same
pub noted_owes : (l : Option Leased) (g : ℕ) (event : LifeEvent) (kept : EndKept) (todo : Todo) (faults faults' : ℕ)
    → KeptAs (is_end event) faults faults' kept → Owes (step_of l g event) todo → Owes (step_of l g (noted_event event kept)) todo
noted_owes l g event kept todo faults faults' k o = by_test (is_end event) refl kept k
  where
    by_test : (b : Bool) → is_end event ≡ b → (kept : EndKept) → KeptAs b faults faults' kept → Owes (step_of l g (noted_event event kept)) todo
    by_test true e K.NotAsked h = absurd h
    by_test true e K.Kept h = o
    by_test true e K.KeeperFault h = also (step_of l g event) (step_of l g EndUnkept) todo o (unkept_of l g event e)
    by_test true e K.Memory h = also (step_of l g event) (step_of l g EndUnkept) todo o (unkept_of l g event e)
    by_test false e K.NotAsked h = o
    by_test false e K.Kept h = absurd h
    by_test false e K.KeeperFault h = absurd h
    by_test false e K.Memory h = absurd h

-- a step that owes this leads to a life
pub owed_step : (step : LifeStep) (todo : Todo) → Owes step todo → (life : Life) × (step ≡ Ok (life, todo))
owed_step (Ok next) todo h = (next.0, λ i. Ok (next.0, h i))
owed_step (Err e) todo h = absurd h

noted_outcome : (event : LifeEvent) (kept : EndKept) → is_outcome event ≡ true → is_outcome (noted_event event kept) ≡ true
noted_outcome event K.NotAsked h = h
noted_outcome event K.Kept h = h
noted_outcome event K.KeeperFault h = refl
noted_outcome event K.Memory h = refl

pub is_entry : (s : Hub) (g : ℕ) (event : LifeEvent) (kept : EndKept) (todo : Todo) (faults faults' : ℕ) → is_outcome event ≡ true
    → KeptAs (is_end event) faults faults' kept → Owes (step_at s.lives g event) todo → IsOfLife s (entry_of g event kept)
is_entry s g event kept todo faults faults' outcome k o =
    (noted_outcome event kept outcome, taken (step_at s.lives g (noted_event event kept)) todo (noted_owes (get s.lives g) g event kept todo faults faults' k o))

-- ---- the book after it

pub reached_stepped : (start : Start) (s s' : Hub) (told told' : List Entry) (g : ℕ) (event : LifeEvent) (came : Result Step LifeRefusal) (faults faults' : ℕ)
    → is_outcome event ≡ true → Reached start told s → Steps g event came s s' told told' faults faults' → Reached start told' s'
reached_stepped start s s' told told' g event (Ok made) faults faults' outcome r h =
    moved start (with_entry (Some (entry_of g event made.kept)) told) told' (apply (entry_of g event made.kept) s) s' h.hub h.noted
    (reached_more start told s (entry_of g event made.kept) r (inr (is_entry s g event made.kept made.todo faults faults' outcome h.kept h.owes)))
reached_stepped start s s' told told' g event (Err e) faults faults' outcome r h = moved start told told' s s' h.hub h.noted r

-- the keeper's count stays where the keeper does
pub same_count : {K : Type 0} {A B : Type 0} {k k' : K} (came : Result A B) {n n' : ℕ} → (k' ≡ k → n' ≡ n) → OnErr came (k' ≡ k) → OnErr came (n' ≡ n)
same_count (Ok made) f h = tt
same_count (Err e) f h = f h

pub stamped_lives : (c : Cache) (s s' : Hub) (since stamp : ℕ) (told told' : List Entry) (g : ℕ) (event : LifeEvent) (came : Result Step LifeRefusal) (faults faults' : ℕ)
    → Steps g event came s s' told told' faults faults' → IsStamped c s.tables since stamp s.length → IsStamped c s'.tables since stamp s'.length
stamped_lives c s s' since stamp told told' g event (Ok made) faults faults' h t = stamped_stepped c s s' since stamp g (noted_event event made.kept) h.hub t
stamped_lives c s s' since stamp told told' g event (Err e) faults faults' h t = stamped_same c s s' since stamp h.hub t

-- ---- at a place

pub lived_at : (start : Start) (s s' : Hub) (told told' : List Entry) (g : ℕ) (event : LifeEvent) (came : Result Step LifeRefusal) (faults faults' : ℕ)
    → Reached start told s → Reached start told' s' → Steps g event came s s' told told' faults faults' → OnErr came (faults' ≡ faults)
    → LivedAt start told told' faults faults' g event came
lived_at start s s' told told' g event (Ok made) faults faults' r r' h same = record {
  state = s;
  reached = r;
  owes = h.owes;
  kept = h.kept;
  noted = h.noted;
  length = h.length ∙ r'.length;
}
lived_at start s s' told told' g event (Err e) faults faults' r r' h same = record { state = s; reached = r; refused = h.refused; noted = h.noted; unasked = same }
