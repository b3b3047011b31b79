-- The world: the live servers of a hub, a proxy's routes, the programs that run, and the messages on their way.
use Rattle.std.specs.Prelude.{◌≡◌, ◌≢◌, ◌⊎◌, ℕ, ◌+◌, Bool, true, false, not, nat_eq, List, [], ◌∷◌, filter, Option, Some, None, option_map}
use Rattle.std.specs.FinMap.{insert, remove}
use Rattle.hub_kit.specs.declared.names.ServerKey.{ServerKey}
use Rattle.hub_devices.specs.declared.calls.Spawning.{Spawning}
use Rattle.hub_devices.specs.declared.calls.Spawning.TheVariants as S
use Rattle.hub_devices.specs.declared.calls.Routing.{Routing}
use Rattle.hub_devices.specs.declared.calls.Routing.TheVariants as R
use Rattle.hub_devices.specs.declared.calls.Told.{Told}
use Rattle.server_life.specs.declared.life.Life.{Life}
use Rattle.server_life.specs.declared.life.Todo.{Todo}
use Rattle.server_life.specs.declared.life.Todo.TheVariants.{Nothing, Start, AddRoute, DeleteRoute, StopProgram, Poll}
use Rattle.hub_lives.specs.declared.lives.Leased.{Leased}
use Rattle.hub_lives.specs.Lives.{Lives, leased_to}
use Rattle.hub_lives.specs.LiveServers.{LiveServers, begins}
use Rattle.route_table.specs.Table.{Table}
use Rattle.server_work.specs.declared.work.Work.{Work}
use Rattle.server_work.specs.LifeSteps.{left_of}
use Rattle.server_work.specs.Outcomes.{added_serial, deleted_serial}
use Rattle.server_work.specs.RoutePaths.{route_path}
use Rattle.world_law.specs.Answers.{Reply}

-- x is one of the list
abbrev pub Mem : {A : Type 0} → List A → A → Type 0
Mem [] x = ⊥
Mem (y ∷ ys) x = (y ≡ x) ⊎ Mem ys x

-- ---- calls

-- what is asked of the spawner or the proxy
pub data What : Type 0 where
  Spawn : Spawning → What
  Route : Routing → What

-- A call on its way, with a number of its own
pub record Call : Type 0 where
  pub id : ℕ
  pub what : What

-- The call of this number that asks for this
abbrev pub call : ℕ → What → Call
call id what = record { id = id; what = what }

-- What the spawner told of a call, or what the proxy's table answered to it
pub data Answer : Type 0 where
  BySpawner : Told → Answer
  ByProxy : Reply → Answer

-- A call with its answer
pub record Answered : Type 0 where
  pub call : Call
  pub answer : Answer

-- ---- the world

-- a server's generation, at its target
pub record Instance : Type 0 where
  pub generation : ℕ
  pub server : ServerKey
  pub target : List ℕ

-- a listed path with its serial
pub record Listing : Type 0 where
  pub path : List ℕ
  pub serial : ℕ

-- The state of all: the hub's live servers, the proxy's routes, the programs that run, the calls on their way or answered, and what was
-- seen at earlier steps
pub record World : Type 0 where
  -- the hub's live servers, with its pool and its next generation
  pub live : LiveServers
  -- the proxy's routes
  pub table : Table
  pub programs : List Instance
  -- the calls whose outcome the hub waits for, those on their way to the spawner and the proxy, and those that were answered
  pub waiting : List Call
  pub sent : List Call
  pub told : List Answered
  -- the number of the next call
  pub fresh : ℕ
  -- what was seen at earlier steps: servers that were ready, routes that were listed, those of them whose generation wasn't live for their
  -- path later, and servers that were being adopted
  pub were_ready : List Instance
  pub were_listed : List Listing
  pub were_over : List Listing
  pub were_adopting : List Instance

-- The call has another number
abbrev is_other : ℕ → Call → Bool
is_other id call = not (nat_eq call.id id)

-- the calls but the one with this number
abbrev pub take_off : ℕ → List Call → List Call
take_off id calls = filter (is_other id) calls

-- The server that has a lease of the generation g, at its target
abbrev pub instance_of : ℕ → Leased → Instance
instance_of g l = record { generation = g; server = l.server; target = l.target }

-- The call that starts the program of this generation
abbrev pub start_of : Instance → (secret : List ℕ) → What
start_of i secret = Spawn (S.Start i.generation i.server i.target secret)

-- The call that stops the program of the generation g at its target
abbrev pub stop_of : ℕ → (target : List ℕ) → What
stop_of g target = Spawn (S.Stop g target)

-- The call that asks whether the program of the generation g runs
abbrev pub poll_of : ℕ → (target : List ℕ) → What
poll_of g target = Spawn (S.Poll g target)

-- The program is of another generation
abbrev is_elsewhere : ℕ → Instance → Bool
is_elsewhere g program = not (nat_eq program.generation g)

-- the programs but those of a generation
abbrev pub without : ℕ → List Instance → List Instance
without g programs = filter (is_elsewhere g) programs

-- The call is one of the proxy
abbrev pub is_route_message : Call → Bool
is_route_message call = elim call.what [ Spawn c ↦ false | Route c ↦ true ]

-- ---- what the hub does

-- What has to be done for the server that has the lease l of the generation g, with the secret that a start needs
abbrev pub work_of : ℕ → Leased → Option (List ℕ) → Work
work_of g l secret = record { generation = g; server = l.server; path = route_path l.server; target = l.target; secret = secret }

-- The call that is owed for this work, if one is; a start needs the secret of the server's token
abbrev pub call_of : Work → Todo → Option What
call_of w Nothing = None
call_of w Start = option_map (λ secret. Spawn (S.Start w.generation w.server w.target secret)) w.secret
call_of w AddRoute = Some (Route (R.Add w.path w.target (Some (added_serial w))))
call_of w DeleteRoute = Some (Route (R.Delete w.path (deleted_serial w)))
call_of w StopProgram = Some (Spawn (S.Stop w.generation w.target))
call_of w Poll = Some (Spawn (S.Poll w.generation w.target))

-- a call goes on its way, and nobody waits for it
abbrev pub send : What → World → World
send what w = record w { sent = call w.fresh what ∷ w.sent; fresh = w.fresh + 1 }

-- a call that is owed goes in flight
abbrev pub owe : Option What → World → World
owe None w = w
owe (Some what) w = record w {
  sent = call w.fresh what ∷ w.sent;
  waiting = call w.fresh what ∷ w.waiting;
  fresh = w.fresh + 1;
}

-- The live servers once the life of the generation g, whose lease is l, has moved; one that is over has no lease
abbrev pub with_life : ℕ → Leased → Option Life → Lives → Lives
with_life g l None lives = remove lives g
with_life g l (Some life) lives = insert lives g (record l { life = life })

-- a start: the next generation is leased the free target of least index, and the start of its program is owed
abbrev pub begun : ServerKey → (secret : List ℕ) → World → World
begun server secret w =
    owe (call_of (work_of w.live.next (leased_to w.live.pool w.live.lives w.live.next server) (Some secret)) Start)
    (record w { live = begins server w.live })

-- The world after a step of the life of the generation g, whose lease is l: `made` is what its life became, and what it owes then
abbrev pub lived : ℕ → Leased → Life × Todo → World → World
lived g l made w =
    owe (call_of (work_of g l None) made.1)
    (record w { live = record w.live { lives = with_life g l (left_of made.0) w.live.lives } })

-- ---- what the spawner and the proxy do

-- The world once the call is off its way, and answered so
abbrev pub answered : Call → Answer → World → World
answered c answer w = record w { sent = take_off c.id w.sent; told = record { call = c; answer = answer } ∷ w.told }

-- It tells truly whether one of these programs is of the generation g
pub record TellsWhether (programs : List Instance) (g : ℕ) (told : Bool) : Type 0 where
  pub there : told ≡ true → (p : Instance) × Mem programs p × (p.generation ≡ g)
  pub gone : told ≡ false → (p : Instance) → Mem programs p → p.generation ≢ g
