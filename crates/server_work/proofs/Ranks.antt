-- A chain ends: each outcome leaves less to be done than the call that it came of.
use Rattle.std.proofs.Common.{ℕ, ◌≡◌, ◌≢◌, ◌<◌, ◌≤◌, Bool, true, false, Option, Some, None, Ok, Err, Result, refl, ap, sym, ◌∙◌, subst, cond, nat_lt, arith}
use Rattle.std.proofs.lemmas.Bool.Decides.{nat_tests}
use Rattle.server_life.specs.declared.life.Phase.{Phase}
use Rattle.server_life.specs.declared.life.Phase.TheVariants.{Adopting, Spawning, Routing, Unrouting, Stopping}
use Rattle.server_life.specs.declared.life.Life.{Life}
use Rattle.server_life.specs.declared.life.LifeEvent.{LifeEvent}
use Rattle.server_life.specs.declared.life.LifeEvent.TheVariants.{Begin, AskStop, Spawned, SpawnFailed, Routed, RouteFailed, Unrouted, UnrouteFailed, Ended, StopFailed, EndUnkept, Alive, Dead, PollFailed}
use Rattle.server_life.specs.declared.life.Todo.{Todo}
use Rattle.server_life.specs.declared.life.Todo.TheVariants.{Nothing, Start, AddRoute, DeleteRoute, StopProgram, Poll}
use Rattle.server_life.specs.declared.life.LifeRefusal.{LifeRefusal}
use Rattle.server_life.specs.LifeTable.{row, or_refused, life_after, generation_of, is_generation}
use Rattle.server_work.specs.LifeSteps.{Lives, step_at, step_of}
use Rattle.server_work.specs.Outcomes.{todo_of}

abbrev pub rank : Todo → ℕ
rank Nothing = 0
rank StopProgram = 1
rank DeleteRoute = 2
rank AddRoute = 3
rank Start = 4
rank Poll = 4

rank_most : (t : Todo) → rank t ≤ 4
rank_most Nothing = omega arith
rank_most StopProgram = omega arith
rank_most DeleteRoute = omega arith
rank_most AddRoute = omega arith
rank_most Start = omega arith
rank_most Poll = omega arith

abbrev RankOk : LifeEvent → Option (Life × Todo) → Type 0
RankOk e None = Unit {0}
RankOk e (Some m) = todo_of e ≢ Nothing → nat_lt (rank m.1) (rank (todo_of e)) ≡ true

ranks : (g : ℕ) (ph : Phase) (asked : Bool) (e : LifeEvent) → RankOk e (row g ph e asked)
ranks g ph asked Begin = wish (row g ph Begin asked)
  where
    wish : (line : Option (Life × Todo)) → RankOk Begin line
    wish None = tt
    wish (Some m) = λ some. absurd (some refl)
ranks g ph asked AskStop = wish (row g ph AskStop asked)
  where
    wish : (line : Option (Life × Todo)) → RankOk AskStop line
    wish None = tt
    wish (Some m) = λ some. absurd (some refl)
ranks g (Adopting h) true Alive = λ _. refl
ranks g (Adopting h) false Alive = λ _. refl
ranks g (Adopting h) asked Dead = λ _. refl
ranks g (Adopting h) asked PollFailed = λ _. refl
ranks g (Spawning h) true Spawned = λ _. refl
ranks g (Spawning h) false Spawned = λ _. refl
ranks g (Spawning h) asked SpawnFailed = λ _. refl
ranks g (Spawning h) asked EndUnkept = λ some. absurd (some refl)
ranks g (Routing h) true Routed = λ _. refl
ranks g (Routing h) false Routed = λ _. refl
ranks g (Routing h) asked RouteFailed = λ _. refl
ranks g (Unrouting h) asked Unrouted = λ _. refl
ranks g (Unrouting h) asked UnrouteFailed = λ _. refl
ranks g (Stopping h) asked Ended = λ _. refl
ranks g (Stopping h) asked StopFailed = λ _. refl
ranks g (Stopping h) asked EndUnkept = λ some. absurd (some refl)
ranks g ph asked e = tt

-- ---- an outcome that is taken has its line, and is of the phase's own generation

taken : (line : Option (Life × Todo)) (why : LifeRefusal) (made : Life × Todo) → or_refused line why ≡ Ok made → line ≡ Some made
taken None why made h = cc
taken (Some m) why made h = cc

own_line : (b : Bool) (line : Option (Life × Todo)) (why other : LifeRefusal) (made : Life × Todo) → cond b (or_refused line why) (Err other) ≡ Ok made → (b ≡ true) × (line ≡ Some made)
own_line true line why other made h = (refl, taken line why made h)
own_line false line why other made h = cc

pub line_of : (l : Life) (g : ℕ) (e : LifeEvent) (made : Life × Todo) → todo_of e ≢ Nothing → life_after l g e ≡ Ok made
    → (is_generation g (generation_of l.phase) ≡ true) × (row g l.phase e l.stop_asked ≡ Some made)
line_of l g Begin made some h = absurd (some refl)
line_of l g AskStop made some h = absurd (some refl)
line_of l g e made some h = own_line (is_generation g (generation_of l.phase)) _ LifeRefusal.NotNow (LifeRefusal.OldGeneration g) made h

-- ---- the measure of a chain

of_life : (life : Option Life) (g : ℕ) (e : LifeEvent) (made : Life × Todo) → todo_of e ≢ Nothing → step_of life g e ≡ Ok made → nat_lt (rank made.1) (rank (todo_of e)) ≡ true
of_life None g e made some h = absurd (cc (h))
of_life (Some l) g e made some h = subst (RankOk e) (line_of l g e made some h).1 (ranks g l.phase l.stop_asked e) some

pub fewer : (lives : Lives) (g : ℕ) (e : LifeEvent) (made : Life × Todo) → todo_of e ≢ Nothing → step_at lives g e ≡ Ok made → rank made.1 < rank (todo_of e)
fewer lives g e made some h = let t = of_life (lives g) g e made some h in grind (arith, nat_tests)

-- no outcome owes a start
pub no_start : (lives : Lives) (g : ℕ) (e : LifeEvent) (made : Life × Todo) → todo_of e ≢ Nothing → step_at lives g e ≡ Ok made → made.1 ≢ Start
no_start lives g e made some h = λ start. omega (arith, fewer lives g e made some h, rank_most (todo_of e), ap rank start)
