-- What a step of the life table leaves: an end has no phase, and any other step has the generation of before.
use Rattle.std.proofs.Common.{◌≡◌, ℕ, Bool, true, false, cond, Option, Some, None, Ok, Err, refl, subst}
use Rattle.std.specs.Prelude.{IsOk}
use Rattle.server_life.specs.declared.life.Phase.{Phase}
use Rattle.server_life.specs.declared.life.Phase.TheVariants.{Stopped, Adopting, Spawning, Routing, Ready, Unrouting, Stopping, Parked}
use Rattle.server_life.specs.declared.life.Life.{Life}
use Rattle.server_life.specs.declared.life.LifeEvent.{LifeEvent}
use Rattle.server_life.specs.declared.life.LifeEvent.TheVariants.{Begin, AskStop, Spawned, SpawnFailed, Routed, RouteFailed, Unrouted, UnrouteFailed, Ended, StopFailed, EndUnkept, Alive, Dead, PollFailed}
use Rattle.server_life.specs.declared.life.LifeRefusal.{LifeRefusal}
use Rattle.server_life.specs.declared.life.LifeRefusal.TheVariants.{OldGeneration, NotNow}
use Rattle.server_life.specs.declared.life.Todo.{Todo}
use Rattle.server_life.specs.LifeTable.{row, or_refused, life_after, generation_of, is_generation, begin_refusal, stop_refusal}
use Rattle.server_life.specs.Lives.{is_outcome}
use Rattle.hub_machine.specs.Steps.{is_end, noted_event}
use Rattle.hub_machine.specs.declared.step.Kept.{Kept as EndKept}
use Rattle.hub_machine.specs.declared.step.Kept.TheVariants as Of

-- ---- an event that is taken has its line

line_is : (line : Option (Life × Todo)) (why : LifeRefusal) (made : Life × Todo) → or_refused line why ≡ Ok made → line ≡ Some made
line_is None why made h = cc
line_is (Some m) why made h = cc

by_test : (b : Bool) (line : Option (Life × Todo)) (why other : LifeRefusal) (made : Life × Todo) → cond b (or_refused line why) (Err other) ≡ Ok made → line ≡ Some made
by_test true line why other made h = line_is line why made h
by_test false line why other made h = cc

line_of : (l : Life) (g : ℕ) (e : LifeEvent) (made : Life × Todo) → life_after l g e ≡ Ok made → row g l.phase e l.stop_asked ≡ Some made
line_of l g Begin made h = line_is _ (begin_refusal l.phase l.stop_asked) made h
line_of l g AskStop made h = line_is _ (stop_refusal l.phase) made h
line_of l g e made h = by_test (is_generation g (generation_of l.phase)) _ NotNow (OldGeneration g) made h

-- ---- lines of an end

abbrev IsOver : Option (Life × Todo) → Type 0
IsOver None = Unit {0}
IsOver (Some m) = m.0.phase ≡ Stopped

ends : (g : ℕ) (ph : Phase) (asked : Bool) (e : LifeEvent) → is_end e ≡ true → IsOver (row g ph e asked)
ends g (Spawning h) asked SpawnFailed o = refl
ends g (Stopping h) asked Ended o = refl
ends g ph asked SpawnFailed o = tt
ends g ph asked Ended o = tt
ends g ph asked e o = cc

pub is_over : (l : Life) (g : ℕ) (e : LifeEvent) (made : Life × Todo) → is_end e ≡ true → life_after l g e ≡ Ok made → made.0.phase ≡ Stopped
is_over l g e made o h = subst IsOver (line_of l g e made h) (ends g l.phase l.stop_asked e o)

-- ---- all others

abbrev GoesOn : ℕ → Phase → Option (Life × Todo) → Type 0
GoesOn g ph None = Unit {0}
GoesOn g ph (Some m) = generation_of ph ≡ Some g → generation_of m.0.phase ≡ Some g

going : (g : ℕ) (ph : Phase) (asked : Bool) (e : LifeEvent) → is_end e ≡ false → GoesOn g ph (row g ph e asked)
going g ph asked Ended n = cc
going g ph asked SpawnFailed n = cc
going g Stopped asked Begin n = λ s. refl
going g (Adopting h) false AskStop n = λ s. s
going g (Spawning h) false AskStop n = λ s. s
going g (Routing h) false AskStop n = λ s. s
going g (Ready h) asked AskStop n = λ s. s
going g (Parked h at) asked AskStop n = λ s. s
going g (Adopting h) true Alive n = λ s. s
going g (Adopting h) false Alive n = λ s. s
going g (Adopting h) asked Dead n = λ s. s
going g (Adopting h) asked PollFailed n = λ s. s
going g (Spawning h) true Spawned n = λ s. s
going g (Spawning h) false Spawned n = λ s. s
going g (Spawning h) asked EndUnkept n = λ s. s
going g (Routing h) true Routed n = λ s. s
going g (Routing h) false Routed n = λ s. s
going g (Routing h) asked RouteFailed n = λ s. s
going g (Unrouting h) asked Unrouted n = λ s. s
going g (Unrouting h) asked UnrouteFailed n = λ s. s
going g (Stopping h) asked StopFailed n = λ s. s
going g (Stopping h) asked EndUnkept n = λ s. s
going g ph asked e n = tt

pub goes_on : (l : Life) (g : ℕ) (e : LifeEvent) (made : Life × Todo) → is_end e ≡ false → generation_of l.phase ≡ Some g → life_after l g e ≡ Ok made → generation_of made.0.phase ≡ Some g
goes_on l g e made n own h = subst (GoesOn g l.phase) (line_of l g e made h) (going g l.phase l.stop_asked e n) own

-- ---- what is noted of an end that isn't kept

abbrev Unkept : Option (Life × Todo) → Option (Life × Todo) → Type 0
Unkept None other = Unit {0}
Unkept (Some m) None = ⊥
Unkept (Some m) (Some n) = Unit {0}

unkept_line : (g : ℕ) (ph : Phase) (asked : Bool) (e : LifeEvent) → is_end e ≡ true → Unkept (row g ph e asked) (row g ph EndUnkept asked)
unkept_line g (Spawning h) asked SpawnFailed o = tt
unkept_line g (Stopping h) asked Ended o = tt
unkept_line g ph asked SpawnFailed o = tt
unkept_line g ph asked Ended o = tt
unkept_line g ph asked e o = cc

taken_too : (line other : Option (Life × Todo)) → Unkept line other → IsOk (or_refused line NotNow) → IsOk (or_refused other NotNow)
taken_too None other u h = cc
taken_too (Some m) None u h = absurd u
taken_too (Some m) (Some n) u h = refl

of_own : (b : Bool) (line other : Option (Life × Todo)) (why : LifeRefusal) → Unkept line other → IsOk (cond b (or_refused line NotNow) (Err why)) → IsOk (cond b (or_refused other NotNow) (Err why))
of_own true line other why u h = taken_too line other u h
of_own false line other why u h = h

pub unkept_too : (l : Life) (g : ℕ) (e : LifeEvent) → is_end e ≡ true → IsOk (life_after l g e) → IsOk (life_after l g EndUnkept)
unkept_too l g Ended o h = of_own (is_generation g (generation_of l.phase)) (row g l.phase Ended l.stop_asked) (row g l.phase EndUnkept l.stop_asked) (OldGeneration g) (unkept_line g l.phase l.stop_asked Ended o) h
unkept_too l g SpawnFailed o h = of_own (is_generation g (generation_of l.phase)) (row g l.phase SpawnFailed l.stop_asked) (row g l.phase EndUnkept l.stop_asked) (OldGeneration g) (unkept_line g l.phase l.stop_asked SpawnFailed o) h
unkept_too l g e o h = cc

-- an outcome is noted as an outcome
pub noted_outcome : (e : LifeEvent) (kept : EndKept) → is_outcome e ≡ true → is_outcome (noted_event e kept) ≡ true
noted_outcome e Of.NotAsked o = o
noted_outcome e Of.Kept o = o
noted_outcome e Of.KeeperFault o = refl
noted_outcome e Of.Memory o = refl
