-- What an outcome tells of the call that it came of, and how it is noted.
use Rattle.std.specs.Prelude.{◌≡◌, ℕ, ◌+◌, ◌*◌, Bool, true, false, List, [], ◌∷◌, Option, Some, None}
use Rattle.hub_devices.specs.declared.calls.Spawning.{Spawning}
use Rattle.hub_devices.specs.declared.calls.Spawning.TheVariants as Spawn
use Rattle.hub_devices.specs.declared.calls.Routing.{Routing}
use Rattle.hub_devices.specs.declared.calls.Routing.TheVariants as Route
use Rattle.hub_devices.specs.declared.calls.Told.{Told}
use Rattle.hub_devices.specs.declared.calls.Told.TheVariants.{Done, Runs}
use Rattle.hub_devices.specs.declared.calls.Told.TheVariants as Tell
use Rattle.hub_devices.specs.Faults.{Rises}
use Rattle.server_life.specs.declared.life.LifeEvent.{LifeEvent}
use Rattle.server_life.specs.declared.life.LifeEvent.TheVariants.{Spawned, SpawnFailed, Routed, RouteFailed, Unrouted, UnrouteFailed, Ended}
use Rattle.server_life.specs.declared.life.LifeEvent.TheVariants.{StopFailed, EndUnkept, Alive, Dead, PollFailed}
use Rattle.server_life.specs.declared.life.Todo.{Todo}
use Rattle.server_life.specs.declared.life.Todo.TheVariants.{Nothing, Start, AddRoute, DeleteRoute, StopProgram, Poll}
use Rattle.server_work.specs.declared.work.Work.{Work}
use Rattle.server_work.specs.declared.work.Device.{Device}
use Rattle.server_work.specs.declared.work.Device.TheVariants.{Spawner, Proxy}
use Rattle.server_work.specs.declared.work.Kept.{Kept}
use Rattle.server_work.specs.declared.work.Kept.TheVariants as K

-- what was owed: an outcome comes of one kind of call
abbrev pub todo_of : LifeEvent → Todo
todo_of Spawned = Start
todo_of SpawnFailed = Start
todo_of Routed = AddRoute
todo_of RouteFailed = AddRoute
todo_of Unrouted = DeleteRoute
todo_of UnrouteFailed = DeleteRoute
todo_of Ended = StopProgram
todo_of StopFailed = StopProgram
todo_of Alive = Poll
todo_of Dead = Poll
todo_of PollFailed = Poll
todo_of event = Nothing

-- whose call failed
abbrev pub device_of : LifeEvent → Option Device
device_of SpawnFailed = Some Spawner
device_of StopFailed = Some Spawner
device_of PollFailed = Some Spawner
device_of RouteFailed = Some Proxy
device_of UnrouteFailed = Some Proxy
device_of event = None

-- a start needs a secret
abbrev pub start_told : Work → Option (List ℕ) → Told → List (Spawning × Told)
start_told w None told = []
start_told w (Some secret) told = (Spawn.Start w.generation w.server w.target secret, told) ∷ []

-- the call of the spawner, with what it told
abbrev pub spawner_did : Work → LifeEvent → List (Spawning × Told)
spawner_did w Spawned = start_told w w.secret Done
spawner_did w SpawnFailed = start_told w w.secret Tell.Failed
spawner_did w Ended = (Spawn.Stop w.generation w.target, Done) ∷ []
spawner_did w StopFailed = (Spawn.Stop w.generation w.target, Tell.Failed) ∷ []
spawner_did w Alive = (Spawn.Poll w.generation w.target, Runs true) ∷ []
spawner_did w Dead = (Spawn.Poll w.generation w.target, Runs false) ∷ []
spawner_did w PollFailed = (Spawn.Poll w.generation w.target, Tell.Failed) ∷ []
spawner_did w event = []

-- a generation's addition and its deletion have serials of their own, and those of a later one are greater
abbrev pub added_serial : Work → ℕ
added_serial w = 2 * w.generation

abbrev pub deleted_serial : Work → ℕ
deleted_serial w = 2 * w.generation + 1

-- the call of the route link, with what it told
abbrev pub routes_did : Work → LifeEvent → List (Routing × Told)
routes_did w Routed = (Route.Add w.path w.target (Some (added_serial w)), Done) ∷ []
routes_did w RouteFailed = (Route.Add w.path w.target (Some (added_serial w)), Tell.Failed) ∷ []
routes_did w Unrouted = (Route.Delete w.path (deleted_serial w), Done) ∷ []
routes_did w UnrouteFailed = (Route.Delete w.path (deleted_serial w), Tell.Failed) ∷ []
routes_did w event = []

-- The event is the end of a program
abbrev pub is_end : LifeEvent → Bool
is_end Ended = true
is_end SpawnFailed = true
is_end event = false

-- the event that is noted: in place of an end that wasn't kept, that it wasn't
abbrev pub noted : LifeEvent → Kept → LifeEvent
noted event K.NotAsked = event
noted event K.Kept = event
noted event K.KeeperFault = EndUnkept
noted event K.Memory = EndUnkept

-- only ends are kept, and for others the book's count of faults stands still; the keeper's fault comes only where that count rose from the
-- one number to the other
abbrev pub KeptAs : Bool → ℕ → ℕ → Kept → Type 0
KeptAs true before after K.NotAsked = ⊥
KeptAs true before after K.Kept = Unit {0}
KeptAs true before after K.KeeperFault = Rises before after
KeptAs true before after K.Memory = Unit {0}
KeptAs false before after K.NotAsked = after ≡ before
KeptAs false before after _ = ⊥
