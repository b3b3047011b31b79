-- What the lines of the life table have in common.
use Rattle.std.proofs.Common.{ℕ, ◌≡◌, ◌<◌, ◌⊎◌, inl, inr, Bool, true, false, Option, Some, None, Ok, Err, refl, ap, ◌∙◌, subst, cond, nat_lt, arith}
use Rattle.std.proofs.lemmas.Bool.Decides.{nat_tests}
use Rattle.server_life.specs.declared.life.Phase.{Phase}
use Rattle.server_life.specs.declared.life.Phase.TheVariants.{Stopped, Adopting, Spawning, Routing, Ready, Unrouting, Stopping, Parked}
use Rattle.server_life.specs.declared.life.Life.{Life}
use Rattle.server_life.specs.declared.life.LifeEvent.{LifeEvent}
use Rattle.server_life.specs.declared.life.LifeEvent.TheVariants.{Begin, AskStop, Spawned, SpawnFailed, Routed, RouteFailed, Unrouted, UnrouteFailed, Ended, StopFailed, EndUnkept, Alive, Dead, PollFailed}
use Rattle.server_life.specs.declared.life.Todo.{Todo}
use Rattle.server_life.specs.declared.life.LifeRefusal.{LifeRefusal}
use Rattle.server_life.specs.LifeTable.{row, or_refused, life_after, generation_of, is_generation, begin_refusal, stop_refusal}
use Rattle.server_life.specs.Lives.{is_outcome, is_begin, is_starting}
use Rattle.server_life.specs.Owed.{owed}

-- a line for an outcome leaves fewer outcomes to come, and the generation or nothing
abbrev OutcomeOk : Phase → Option (Life × Todo) → Type 0
OutcomeOk ph None = Unit {0}
OutcomeOk ph (Some m) = (nat_lt (owed m.0.phase) (owed ph) ≡ true) × ((generation_of m.0.phase ≡ generation_of ph) ⊎ (m.0.phase ≡ Stopped))

outcomes : (g : ℕ) (ph : Phase) (asked : Bool) (e : LifeEvent) → is_outcome e ≡ true → OutcomeOk ph (row g ph e asked)
outcomes g ph asked Begin h = cc
outcomes g ph asked AskStop h = cc
outcomes g (Adopting h) true Alive o = (refl, inl refl)
outcomes g (Adopting h) false Alive o = (refl, inl refl)
outcomes g (Adopting h) asked Dead o = (refl, inl refl)
outcomes g (Adopting h) asked PollFailed o = (refl, inl refl)
outcomes g (Spawning h) true Spawned o = (refl, inl refl)
outcomes g (Spawning h) false Spawned o = (refl, inl refl)
outcomes g (Spawning h) asked SpawnFailed o = (refl, inr refl)
outcomes g (Spawning h) asked EndUnkept o = (refl, inl refl)
outcomes g (Routing h) true Routed o = (refl, inl refl)
outcomes g (Routing h) false Routed o = (refl, inl refl)
outcomes g (Routing h) asked RouteFailed o = (refl, inl refl)
outcomes g (Unrouting h) asked Unrouted o = (refl, inl refl)
outcomes g (Unrouting h) asked UnrouteFailed o = (refl, inl refl)
outcomes g (Stopping h) asked Ended o = (refl, inr refl)
outcomes g (Stopping h) asked StopFailed o = (refl, inl refl)
outcomes g (Stopping h) asked EndUnkept o = (refl, inl refl)
outcomes g ph asked e o = tt

taken : (line : Option (Life × Todo)) (why : LifeRefusal) (made : Life × Todo) → or_refused line why ≡ Ok made → line ≡ Some made
taken None why made h = cc
taken (Some m) why made h = cc

by_test : (b : Bool) (line : Option (Life × Todo)) (why other : LifeRefusal) (made : Life × Todo) → cond b (or_refused line why) (Err other) ≡ Ok made → (b ≡ true) × (line ≡ Some made)
by_test true line why other made h = (refl, taken line why made h)
by_test false line why other made h = cc

-- an event that is taken has its line
pub line_of : (l : Life) (g : ℕ) (e : LifeEvent) (made : Life × Todo) → life_after l g e ≡ Ok made → row g l.phase e l.stop_asked ≡ Some made
line_of l g Begin made h = taken _ (begin_refusal l.phase l.stop_asked) made h
line_of l g AskStop made h = taken _ (stop_refusal l.phase) made h
line_of l g e made h = (by_test (is_generation g (generation_of l.phase)) _ LifeRefusal.NotNow (LifeRefusal.OldGeneration g) made h).1

own : (g : ℕ) (o : Option ℕ) → is_generation g o ≡ true → o ≡ Some g
own g None h = cc
own g (Some k) h = ap Some (grind (arith, nat_tests))

-- and an outcome is of the phase's generation
own_of : (l : Life) (g : ℕ) (e : LifeEvent) (made : Life × Todo) → is_outcome e ≡ true → life_after l g e ≡ Ok made → generation_of l.phase ≡ Some g
own_of l g Begin made o h = cc
own_of l g AskStop made o h = cc
own_of l g e made o h = own g (generation_of l.phase) (by_test (is_generation g (generation_of l.phase)) (row g l.phase e l.stop_asked) LifeRefusal.NotNow (LifeRefusal.OldGeneration g) made h).0

outcome_of : (l : Life) (g : ℕ) (e : LifeEvent) (made : Life × Todo) → is_outcome e ≡ true → life_after l g e ≡ Ok made → OutcomeOk l.phase (Some made)
outcome_of l g e made o h = subst (OutcomeOk l.phase) (line_of l g e made h) (outcomes g l.phase l.stop_asked e o)

pub fewer_owed : (l : Life) (g : ℕ) (e : LifeEvent) (made : Life × Todo) → is_outcome e ≡ true → life_after l g e ≡ Ok made → owed made.0.phase < owed l.phase
fewer_owed l g e made o h = let t : nat_lt (owed made.0.phase) (owed l.phase) ≡ true = (outcome_of l g e made o h).0 in grind (arith, nat_tests)

pub same_generation : (l : Life) (g : ℕ) (e : LifeEvent) (made : Life × Todo) → is_outcome e ≡ true → life_after l g e ≡ Ok made
    → (generation_of l.phase ≡ Some g) × ((generation_of made.0.phase ≡ Some g) ⊎ (made.0.phase ≡ Stopped))
same_generation l g e made o h =
    let own = own_of l g e made o h in
    (own, elim (outcome_of l g e made o h).1 [ inl x ↦ inl (x ∙ own) | inr x ↦ inr x ])

-- a wish to stop, while a life is starting
abbrev StopOk : Phase → Option (Life × Todo) → Type 0
StopOk ph None = Unit {0}
StopOk ph (Some m) = owed m.0.phase ≡ owed ph

wishes : (g : ℕ) (ph : Phase) (asked : Bool) → is_starting ph ≡ true → StopOk ph (row g ph AskStop asked)
wishes g (Adopting h) true s = tt
wishes g (Adopting h) false s = refl
wishes g (Spawning h) true s = tt
wishes g (Spawning h) false s = refl
wishes g (Routing h) true s = tt
wishes g (Routing h) false s = refl
wishes g ph asked s = cc

pub stop_keeps_owed : (l : Life) (g : ℕ) (made : Life × Todo) → is_starting l.phase ≡ true → life_after l g AskStop ≡ Ok made → owed made.0.phase ≡ owed l.phase
stop_keeps_owed l g made s h = subst (StopOk l.phase) (line_of l g AskStop made h) (wishes g l.phase l.stop_asked s)

-- a life that won't be ready: it isn't, and it is asked to stop or is ending
abbrev pub is_fated : Phase → Bool → Bool
is_fated (Ready h) asked = false
is_fated (Adopting h) asked = asked
is_fated (Spawning h) asked = asked
is_fated (Routing h) asked = asked
is_fated ph asked = true

abbrev Fated : Option (Life × Todo) → Type 0
Fated None = Unit {0}
Fated (Some m) = is_fated m.0.phase m.0.stop_asked ≡ true

fated_lines : (g : ℕ) (ph : Phase) (asked : Bool) (e : LifeEvent) → is_begin e ≡ false → is_fated ph asked ≡ true → Fated (row g ph e asked)
fated_lines g ph asked Begin b f = cc
fated_lines g (Adopting h) false e b f = cc
fated_lines g (Spawning h) false e b f = cc
fated_lines g (Routing h) false e b f = cc
fated_lines g (Ready h) asked e b f = cc
fated_lines g (Parked h at) asked AskStop b f = refl
fated_lines g (Adopting h) true Alive b f = refl
fated_lines g (Adopting h) true Dead b f = refl
fated_lines g (Adopting h) true PollFailed b f = refl
fated_lines g (Spawning h) true Spawned b f = refl
fated_lines g (Spawning h) true SpawnFailed b f = refl
fated_lines g (Spawning h) true EndUnkept b f = refl
fated_lines g (Routing h) true Routed b f = refl
fated_lines g (Routing h) true RouteFailed b f = refl
fated_lines g (Unrouting h) asked Unrouted b f = refl
fated_lines g (Unrouting h) asked UnrouteFailed b f = refl
fated_lines g (Stopping h) asked Ended b f = refl
fated_lines g (Stopping h) asked StopFailed b f = refl
fated_lines g (Stopping h) asked EndUnkept b f = refl
fated_lines g ph asked e b f = tt

pub stays_fated : (l : Life) (g : ℕ) (e : LifeEvent) (made : Life × Todo) → is_begin e ≡ false → is_fated l.phase l.stop_asked ≡ true → life_after l g e ≡ Ok made → is_fated made.0.phase made.0.stop_asked ≡ true
stays_fated l g e made b f h = subst Fated (line_of l g e made h) (fated_lines g l.phase l.stop_asked e b f)
