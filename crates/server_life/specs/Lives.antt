-- Lives through several events, each with the generation that it is told of.
use Rattle.std.specs.Prelude.{ℕ, ◌≡◌, Bool, true, false, List, [], ◌∷◌, Ok}
use Rattle.server_life.specs.declared.life.Phase.{Phase}
use Rattle.server_life.specs.declared.life.Phase.TheVariants.{Adopting, Spawning, Routing}
use Rattle.server_life.specs.declared.life.Life.{Life}
use Rattle.server_life.specs.declared.life.LifeEvent.{LifeEvent}
use Rattle.server_life.specs.declared.life.LifeEvent.TheVariants.{Begin, AskStop, SpawnFailed, RouteFailed, UnrouteFailed, StopFailed}
use Rattle.server_life.specs.declared.life.LifeEvent.TheVariants.{EndUnkept, PollFailed}
use Rattle.server_life.specs.declared.life.Todo.{Todo}
use Rattle.server_life.specs.LifeTable.{life_after}

-- the events come one after another, and none is refused
abbrev pub LeadsTo : Life → List (ℕ × LifeEvent) → Life → Type 0
LeadsTo life [] later = life ≡ later
LeadsTo life (e ∷ es) later = (made : Life × Todo) × (life_after life e.0 e.1 ≡ Ok made) × LeadsTo made.0 es later

-- a call that was owed failed, or its end wasn't kept
abbrev pub is_failure : LifeEvent → Bool
is_failure SpawnFailed = true
is_failure RouteFailed = true
is_failure UnrouteFailed = true
is_failure StopFailed = true
is_failure EndUnkept = true
is_failure PollFailed = true
is_failure event = false

-- The event is the wish for a start
abbrev pub is_begin : LifeEvent → Bool
is_begin Begin = true
is_begin event = false

-- what came of a call, and not a wish
abbrev pub is_outcome : LifeEvent → Bool
is_outcome Begin = false
is_outcome AskStop = false
is_outcome event = true

-- The server is on its way to be ready in this phase
abbrev pub is_starting : Phase → Bool
is_starting (Adopting h) = true
is_starting (Spawning h) = true
is_starting (Routing h) = true
is_starting phase = false

-- each event passes the test
abbrev pub Each : (LifeEvent → Bool) → List (ℕ × LifeEvent) → Type 0
Each test [] = Unit {0}
Each test (e ∷ es) = (test e.1 ≡ true) × Each test es
