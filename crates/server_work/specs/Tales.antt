-- What is told of a chain.
use Rattle.std.specs.Prelude.{ℕ, Bool, true, false, Option, Some, None}
use Rattle.server_life.specs.declared.life.LifeEvent.{LifeEvent}
use Rattle.server_life.specs.declared.life.LifeEvent.TheVariants.{SpawnFailed, Routed, Ended}
use Rattle.server_life.specs.declared.life.Todo.{Todo}
use Rattle.server_life.specs.declared.life.Todo.TheVariants.{Nothing}
use Rattle.server_work.specs.declared.work.Device.{Device}
use Rattle.server_work.specs.declared.work.Kept.{Kept}
use Rattle.server_work.specs.declared.work.Kept.TheVariants as K
use Rattle.server_work.specs.declared.tale.Tale.{Tale}
use Rattle.server_work.specs.Outcomes.{device_of}

-- What is told of a chain without a step
abbrev pub new_tale : Tale
new_tale = record { failed = None; ready = false; stopped = false; kept = K.NotAsked; length = 0 }

-- The device whose call failed first
abbrev pub first_of : Option Device → Option Device → Option Device
first_of (Some d) other = Some d
first_of None other = other

-- the route was added, and no stop was asked
abbrev pub is_ready : LifeEvent → Todo → Bool
is_ready Routed Nothing = true
is_ready event owes = false

-- the program ended, and that was kept
abbrev pub is_stopped : LifeEvent → Kept → Bool
is_stopped Ended K.Kept = true
is_stopped SpawnFailed K.Kept = true
is_stopped event _ = false

-- What is told of a chain with one step more: of this outcome, which owed this, where an end was kept so and the history was so long then
abbrev pub tale_with : Tale → LifeEvent → Todo → Kept → ℕ → Tale
tale_with t outcome owes kept long = record {
  failed = first_of t.failed (device_of outcome);
  ready = is_ready outcome owes;
  stopped = is_stopped outcome kept;
  kept = kept;
  length = long;
}
