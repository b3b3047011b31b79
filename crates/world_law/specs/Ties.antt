-- What the clauses of the code and the world have in common.
use Rattle.std.specs.Prelude.{List, map, ◌++◌}
use Rattle.hub_devices.specs.declared.calls.Spawning.{Spawning}
use Rattle.hub_devices.specs.declared.calls.Routing.{Routing}
use Rattle.hub_devices.specs.declared.calls.Told.{Told}
use Rattle.hub_lives.specs.LiveServers.{LiveServers}
use Rattle.hub_machine.specs.State.{Hub, next_generation}
use Rattle.server_life.specs.declared.life.LifeEvent.{LifeEvent}
use Rattle.server_work.specs.declared.work.Work.{Work}
use Rattle.server_work.specs.Outcomes.{spawner_did, routes_did}
use Rattle.world_law.specs.World.{What, Spawn, Route}

-- the calls of which an outcome tells
abbrev pub asked : Work → LifeEvent → List What
asked w outcome = map (λ (c : Spawning × Told). Spawn c.0) (spawner_did w outcome) ++ map (λ (c : Routing × Told). Route c.0)
    (routes_did w outcome)

-- the live servers of a hub's state
abbrev pub live_of : Hub → LiveServers
live_of s = record { pool = s.pool; lives = s.lives; next = next_generation s.tables }
