-- How many outcomes may still come in a phase.
use Rattle.std.specs.Prelude.{ℕ}
use Rattle.server_life.specs.declared.life.Phase.{Phase}
use Rattle.server_life.specs.declared.life.Phase.TheVariants.{Stopped, Adopting, Spawning, Routing, Ready, Unrouting, Stopping, Parked}

-- How many outcomes may still come in this phase at most, until nothing is owed
abbrev pub owed : Phase → ℕ
owed Stopped = 0
owed (Adopting h) = 4
owed (Spawning h) = 4
owed (Routing h) = 3
owed (Ready h) = 0
owed (Unrouting h) = 2
owed (Stopping h) = 1
owed (Parked h at) = 0
