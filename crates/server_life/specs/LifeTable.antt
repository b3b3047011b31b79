-- The life of a server: what each event makes of each phase, what is then owed, and which refusal comes.
use Rattle.std.specs.Prelude.{ℕ, Bool, true, false, if◌then◌else◌, Option, Some, None, Result, Ok, Err, nat_eq}
use Rattle.server_life.specs.declared.life.Phase.{Phase}
use Rattle.server_life.specs.declared.life.Phase.TheVariants.{Stopped, Adopting, Spawning, Routing, Ready, Unrouting, Stopping, Parked}
use Rattle.server_life.specs.declared.life.ParkedAt.TheVariants.{Unroute, Stop}
use Rattle.server_life.specs.declared.life.Life.{Life}
use Rattle.server_life.specs.declared.life.LifeEvent.{LifeEvent}
use Rattle.server_life.specs.declared.life.LifeEvent.TheVariants.{Begin, AskStop, Spawned, SpawnFailed, Routed, RouteFailed, Unrouted}
use Rattle.server_life.specs.declared.life.LifeEvent.TheVariants.{UnrouteFailed, Ended, StopFailed, EndUnkept, Alive, Dead, PollFailed}
use Rattle.server_life.specs.declared.life.Todo.{Todo}
use Rattle.server_life.specs.declared.life.Todo.TheVariants.{Nothing, Start, AddRoute, DeleteRoute, StopProgram}
use Rattle.server_life.specs.declared.life.LifeRefusal.{LifeRefusal}
use Rattle.server_life.specs.declared.life.LifeRefusal.TheVariants.{Running, PendingSpawn, PendingStop, OldGeneration, NotNow}

-- a life in a phase, with what is owed
abbrev pub in_phase : Phase → Bool → Todo → Option (Life × Todo)
in_phase phase asked todo = Some (record { phase = phase; stop_asked = asked }, todo)

-- The life table. A line has the phase, the event and whether a stop is asked, and then the next phase, whether a
-- stop is asked there, and what is owed. The generation g is that of a new start.
abbrev pub row : ℕ → Phase → LifeEvent → Bool → Option (Life × Todo)
row g Stopped Begin asked = in_phase (Spawning g) false Start
row g (Adopting h) AskStop false = in_phase (Adopting h) true Nothing
row g (Spawning h) AskStop false = in_phase (Spawning h) true Nothing
row g (Routing h) AskStop false = in_phase (Routing h) true Nothing
row g (Ready h) AskStop asked = in_phase (Unrouting h) true DeleteRoute
row g (Parked h at) AskStop asked = in_phase (Unrouting h) true DeleteRoute
row g (Adopting h) Alive false = in_phase (Routing h) false AddRoute
row g (Adopting h) Alive true = in_phase (Unrouting h) true DeleteRoute
row g (Adopting h) Dead asked = in_phase (Unrouting h) asked DeleteRoute
row g (Adopting h) PollFailed asked = in_phase (Parked h Unroute) asked Nothing
row g (Spawning h) Spawned false = in_phase (Routing h) false AddRoute
row g (Spawning h) Spawned true = in_phase (Stopping h) true StopProgram
row g (Spawning h) SpawnFailed asked = in_phase Stopped false Nothing
row g (Spawning h) EndUnkept asked = in_phase (Parked h Stop) asked Nothing
row g (Routing h) Routed false = in_phase (Ready h) false Nothing
row g (Routing h) Routed true = in_phase (Unrouting h) true DeleteRoute
row g (Routing h) RouteFailed asked = in_phase (Unrouting h) asked DeleteRoute
row g (Unrouting h) Unrouted asked = in_phase (Stopping h) asked StopProgram
row g (Unrouting h) UnrouteFailed asked = in_phase (Parked h Unroute) asked Nothing
row g (Stopping h) Ended asked = in_phase Stopped false Nothing
row g (Stopping h) StopFailed asked = in_phase (Parked h Stop) asked Nothing
row g (Stopping h) EndUnkept asked = in_phase (Parked h Stop) asked Nothing
row g phase event asked = None

-- why Begin has no line
abbrev pub begin_refusal : Phase → Bool → LifeRefusal
begin_refusal (Ready h) asked = Running
begin_refusal (Adopting h) false = PendingSpawn
begin_refusal (Spawning h) false = PendingSpawn
begin_refusal (Routing h) false = PendingSpawn
begin_refusal phase asked = PendingStop

-- why AskStop has no line
abbrev pub stop_refusal : Phase → LifeRefusal
stop_refusal Stopped = NotNow
stop_refusal phase = PendingStop

-- The generation that a phase is of; a server at rest has none
abbrev pub generation_of : Phase → Option ℕ
generation_of Stopped = None
generation_of (Adopting h) = Some h
generation_of (Spawning h) = Some h
generation_of (Routing h) = Some h
generation_of (Ready h) = Some h
generation_of (Unrouting h) = Some h
generation_of (Stopping h) = Some h
generation_of (Parked h at) = Some h

-- The generation, if there is one, is g
abbrev pub is_generation : ℕ → Option ℕ → Bool
is_generation g None = false
is_generation g (Some h) = nat_eq h g

-- What the line of the table says, or this refusal where it has no line
abbrev pub or_refused : Option (Life × Todo) → LifeRefusal → Result (Life × Todo) LifeRefusal
or_refused (Some made) refusal = Ok made
or_refused None refusal = Err refusal

-- What an event makes of a life. Begin and AskStop are of any generation, and what came of a call is of the phase's own.
abbrev pub life_after : Life → ℕ → LifeEvent → Result (Life × Todo) LifeRefusal
life_after life g Begin = or_refused (row g life.phase Begin life.stop_asked) (begin_refusal life.phase life.stop_asked)
life_after life g AskStop = or_refused (row g life.phase AskStop life.stop_asked) (stop_refusal life.phase)
life_after life g event = if is_generation g (generation_of life.phase) then or_refused (row g life.phase event life.stop_asked) NotNow
    else Err (OldGeneration g)
