-- What the lines of the life table have in common, by tests that compute.
use Rattle.std.proofs.Common.{ℕ, ◌≡◌, Bool, true, false, not, ◌&&◌, ◌||◌, Option, Some, None, Ok, Err, refl, subst, cond}
use Rattle.server_life.specs.declared.life.Phase.{Phase}
use Rattle.server_life.specs.declared.life.Phase.TheVariants.{Stopped, Adopting, Spawning, Routing, Ready, Unrouting, Stopping, Parked}
use Rattle.server_life.specs.declared.life.ParkedAt.TheVariants.{Unroute, Stop}
use Rattle.server_life.specs.declared.life.Life.{Life}
use Rattle.server_life.specs.declared.life.LifeEvent.{LifeEvent}
use Rattle.server_life.specs.declared.life.LifeEvent.TheVariants.{Begin, AskStop, Spawned, SpawnFailed, Routed, RouteFailed, Unrouted, UnrouteFailed, Ended, StopFailed, EndUnkept, Alive, Dead, PollFailed}
use Rattle.server_life.specs.declared.life.Todo.{Todo}
use Rattle.server_life.specs.declared.life.Todo.TheVariants.{Nothing, Start, AddRoute}
use Rattle.server_life.specs.declared.life.LifeRefusal.{LifeRefusal}
use Rattle.server_life.specs.LifeTable.{row, or_refused, life_after, generation_of, is_generation, begin_refusal, stop_refusal}
use Rattle.server_life.specs.Lives.{is_outcome}

-- a generation in such a phase has no addition anywhere, or its path has seen its deletion
abbrev pub is_clean : Phase → Bool
is_clean Stopped = false
is_clean (Adopting h) = false
is_clean (Spawning h) = true
is_clean (Routing h) = false
is_clean (Ready h) = false
is_clean (Unrouting h) = false
is_clean (Stopping h) = true
is_clean (Parked h Unroute) = false
is_clean (Parked h Stop) = true

abbrev pub is_spawning : Phase → Bool
is_spawning (Spawning h) = true
is_spawning ph = false

abbrev pub is_stopped : Phase → Bool
is_stopped Stopped = true
is_stopped ph = false

abbrev pub is_unrouted : LifeEvent → Bool
is_unrouted Unrouted = true
is_unrouted e = false

-- the two events that end a lease
abbrev pub ends : LifeEvent → Bool
ends SpawnFailed = true
ends Ended = true
ends e = false

-- what may come of a start, among others
abbrev pub is_after_start : LifeEvent → Bool
is_after_start Spawned = true
is_after_start SpawnFailed = true
is_after_start EndUnkept = true
is_after_start e = false

abbrev pub owes_nothing : Todo → Bool
owes_nothing Nothing = true
owes_nothing t = false

abbrev pub owes_addition : Todo → Bool
owes_addition AddRoute = true
owes_addition t = false

abbrev pub owes_start : Todo → Bool
owes_start Start = true
owes_start t = false

abbrev pub implies : Bool → Bool → Bool
implies true b = b
implies false b = true

pub use_implies : (a b : Bool) → implies a b ≡ true → a ≡ true → b ≡ true
use_implies true b h e = h
use_implies false b h e = cc

pub first : (a b : Bool) → (a && b) ≡ true → a ≡ true
first true b h = refl
first false b h = h

pub second : (a b : Bool) → (a && b) ≡ true → b ≡ true
second true b h = h
second false b h = cc

-- the generation stays, or the life is over
abbrev pub StaysOf : Phase → Phase → Type 0
StaysOf ph Stopped = Unit {0}
StaysOf ph later = generation_of later ≡ generation_of ph

taken : (line : Option (Life × Todo)) (why : LifeRefusal) (made : Life × Todo) → or_refused line why ≡ Ok made → line ≡ Some made
taken None why made h = cc
taken (Some m) why made h = cc

by_test : (b : Bool) (line : Option (Life × Todo)) (why other : LifeRefusal) (made : Life × Todo) → cond b (or_refused line why) (Err other) ≡ Ok made → line ≡ Some made
by_test true line why other made h = taken line why made h
by_test false line why other made h = cc

-- an event that is taken has its line
line_of : (l : Life) (g : ℕ) (e : LifeEvent) (made : Life × Todo) → life_after l g e ≡ Ok made → row g l.phase e l.stop_asked ≡ Some made
line_of l g Begin made h = taken _ (begin_refusal l.phase l.stop_asked) made h
line_of l g AskStop made h = taken _ (stop_refusal l.phase) made h
line_of l g e made h = by_test (is_generation g (generation_of l.phase)) _ LifeRefusal.NotNow (LifeRefusal.OldGeneration g) made h

-- ---- a line of an outcome: from this phase, by this event, to this

abbrev pub line_ok : Phase → LifeEvent → Life × Todo → Bool
line_ok ph e m =
    implies (is_clean m.0.phase) (is_clean ph || is_unrouted e)
    && (implies (is_stopped m.0.phase) (is_clean ph && (owes_nothing m.1 && ends e))
    && (implies (ends e) (is_stopped m.0.phase)
    && (not (is_spawning m.0.phase)
    && (implies (is_spawning ph) (is_after_start e)
    && (implies (owes_addition m.1) (not (is_clean m.0.phase))
    && not (owes_start m.1))))))

abbrev LineOk : Phase → LifeEvent → Option (Life × Todo) → Type 0
LineOk ph e None = Unit {0}
LineOk ph e (Some m) = (line_ok ph e m ≡ true) × StaysOf ph m.0.phase

lines_ok : (g : ℕ) (ph : Phase) (asked : Bool) (e : LifeEvent) → is_outcome e ≡ true → LineOk ph e (row g ph e asked)
lines_ok g ph asked Begin o = cc
lines_ok g ph asked AskStop o = cc
lines_ok g (Adopting h) true Alive o = (refl, refl)
lines_ok g (Adopting h) false Alive o = (refl, refl)
lines_ok g (Adopting h) asked Dead o = (refl, refl)
lines_ok g (Adopting h) asked PollFailed o = (refl, refl)
lines_ok g (Spawning h) true Spawned o = (refl, refl)
lines_ok g (Spawning h) false Spawned o = (refl, refl)
lines_ok g (Spawning h) asked SpawnFailed o = (refl, tt)
lines_ok g (Spawning h) asked EndUnkept o = (refl, refl)
lines_ok g (Routing h) true Routed o = (refl, refl)
lines_ok g (Routing h) false Routed o = (refl, refl)
lines_ok g (Routing h) asked RouteFailed o = (refl, refl)
lines_ok g (Unrouting h) asked Unrouted o = (refl, refl)
lines_ok g (Unrouting h) asked UnrouteFailed o = (refl, refl)
lines_ok g (Stopping h) asked Ended o = (refl, tt)
lines_ok g (Stopping h) asked StopFailed o = (refl, refl)
lines_ok g (Stopping h) asked EndUnkept o = (refl, refl)
lines_ok g ph asked e o = tt

pub line_is_ok : (l : Life) (g : ℕ) (e : LifeEvent) (made : Life × Todo) → is_outcome e ≡ true → life_after l g e ≡ Ok made → (line_ok l.phase e made ≡ true) × StaysOf l.phase made.0.phase
line_is_ok l g e made o h = subst (LineOk l.phase e) (line_of l g e made h) (lines_ok g l.phase l.stop_asked e o)

-- ---- a line of AskStop

abbrev pub ask_ok : Phase → Life × Todo → Bool
ask_ok ph m =
    implies (is_clean m.0.phase) (is_clean ph)
    && (not (is_stopped m.0.phase)
    && (implies (is_spawning ph) (is_spawning m.0.phase)
    && (not (owes_addition m.1)
    && (not (owes_start m.1) && implies (is_spawning m.0.phase) (owes_nothing m.1)))))

abbrev AskOk : Phase → Option (Life × Todo) → Type 0
AskOk ph None = Unit {0}
AskOk ph (Some m) = (ask_ok ph m ≡ true) × StaysOf ph m.0.phase

asks_ok : (g : ℕ) (ph : Phase) (asked : Bool) → AskOk ph (row g ph AskStop asked)
asks_ok g Stopped asked = tt
asks_ok g (Adopting h) true = tt
asks_ok g (Adopting h) false = (refl, refl)
asks_ok g (Spawning h) true = tt
asks_ok g (Spawning h) false = (refl, refl)
asks_ok g (Routing h) true = tt
asks_ok g (Routing h) false = (refl, refl)
asks_ok g (Ready h) asked = (refl, refl)
asks_ok g (Unrouting h) asked = tt
asks_ok g (Stopping h) asked = tt
asks_ok g (Parked h at) asked = (refl, refl)

pub ask_is_ok : (l : Life) (g : ℕ) (made : Life × Todo) → life_after l g AskStop ≡ Ok made → (ask_ok l.phase made ≡ true) × StaysOf l.phase made.0.phase
ask_is_ok l g made h = subst (AskOk l.phase) (line_of l g AskStop made h) (asks_ok g l.phase l.stop_asked)

pub stays_of : (ph later : Phase) → StaysOf ph later → is_stopped later ≡ false → generation_of later ≡ generation_of ph
stays_of ph Stopped s h = cc
stays_of ph (Adopting h) s e = s
stays_of ph (Spawning h) s e = s
stays_of ph (Routing h) s e = s
stays_of ph (Ready h) s e = s
stays_of ph (Unrouting h) s e = s
stays_of ph (Stopping h) s e = s
stays_of ph (Parked h at) s e = s
