-- The steps of the world.
use Rattle.std.specs.Prelude.{◌≡◌, ◌≢◌, ◌≤◌, ℕ, ◌+◌, ◌*◌, Bool, true, List, [], ◌∷◌, filter, Contains, Option, Some, None}
use Rattle.std.specs.Prelude.{option_map, Result, Ok}
use Rattle.std.specs.FinMap.{get, empty}
use Rattle.hub_kit.specs.declared.names.ServerKey.{ServerKey}
use Rattle.hub_devices.specs.declared.calls.Spawning.{Spawning}
use Rattle.hub_devices.specs.declared.calls.Routing.{Routing}
use Rattle.hub_devices.specs.declared.calls.Routing.TheVariants as R
use Rattle.hub_devices.specs.declared.calls.Told.{Told}
use Rattle.hub_devices.specs.declared.calls.Told.TheVariants.{Done, Runs}
use Rattle.hub_devices.specs.declared.calls.Told.TheVariants as Tell
use Rattle.server_life.specs.declared.life.Phase.TheVariants.{Adopting, Ready}
use Rattle.server_life.specs.declared.life.Life.{Life}
use Rattle.server_life.specs.declared.life.LifeEvent.{LifeEvent}
use Rattle.server_life.specs.declared.life.LifeEvent.TheVariants.{AskStop}
use Rattle.server_life.specs.declared.life.Todo.{Todo}
use Rattle.server_life.specs.LifeTable.{life_after}
use Rattle.hub_lives.specs.declared.lives.Leased.{Leased}
use Rattle.hub_lives.specs.Lives.{AreApart, lease_of, free_target, adopted_by}
use Rattle.hub_lives.specs.LiveServers.{LiveServers}
use Rattle.route_table.specs.declared.route.Route.{Route as TableRoute}
use Rattle.route_table.specs.declared.route.RouteEntry.{RouteEntry}
use Rattle.route_table.specs.declared.route.RouteRefusal.{RouteRefusal}
use Rattle.route_table.specs.Table.{Table, listed, IsLook}
use Rattle.server_work.specs.declared.work.Work.{Work}
use Rattle.server_work.specs.declared.work.Kept.{Kept}
use Rattle.server_work.specs.Outcomes.{spawner_did, routes_did, is_end, noted, KeptAs}
use Rattle.server_work.specs.RoutePaths.{route_path}
use Rattle.world_law.specs.Answers.{Reply, Adds, Deletes, is_done}
use Rattle.world_law.specs.World.{Mem, Spawn, Route, call, BySpawner, ByProxy, Instance, World, instance_of, start_of, stop_of, poll_of}
use Rattle.world_law.specs.World.{take_off, without, is_route_message, work_of, send, owe, begun, lived, answered, TellsWhether}

-- ---- the outcome of a call in flight

-- The outcome of the call of this number, which is owed for this work, came: the spawner told so of it; or the proxy answered the call of
-- the route, so that it is done. A route call may be told as failed at any step, and its message may still arrive later
pub data Came (w : World) (id : ℕ) (work : Work) (outcome : LifeEvent) : Type 0 where
  told : (c : Spawning) (t : Told) → spawner_did work outcome ≡ (c, t) ∷ []
      → Mem w.waiting (call id (Spawn c)) → Mem w.told (record { call = call id (Spawn c); answer = BySpawner t })
      → Came w id work outcome
  done : (c : Routing) (reply : Reply) → routes_did work outcome ≡ (c, Done) ∷ []
      → Mem w.waiting (call id (Route c)) → Mem w.told (record { call = call id (Route c); answer = ByProxy reply })
      → is_done c reply ≡ true → Came w id work outcome
  failed : (c : Routing) → routes_did work outcome ≡ (c, Tell.Failed) ∷ []
      → Mem w.waiting (call id (Route c)) → Came w id work outcome

-- The hub takes the outcome of a call in flight, which leads from the first world to the second: this event of the generation is noted,
-- which says of an end whether it was kept
pub data Takes : World → ℕ → LifeEvent → World → Type 0 where
  takes : {w : World} (id g : ℕ) (l : Leased) (secret : Option (List ℕ)) (outcome : LifeEvent) (kept : Kept) (faults faults' : ℕ)
      (made : Life × Todo)
      → get w.live.lives g ≡ Some l
      → Came w id (work_of g l secret) outcome
      → KeptAs (is_end outcome) faults faults' kept
      → life_after l.life g (noted outcome kept) ≡ Ok made
      → Takes w g (noted outcome kept) (lived g l made (record w { waiting = take_off id w.waiting }))

-- ---- opening again

-- The live servers `old` were opened again as `new`: each is adopted. The pool may be another, as long as it has their targets, and no
-- generation is given out twice
pub record IsReopened (old new : LiveServers) : Type 0 where
  pub adopted : (g : ℕ) → get new.lives g ≡ option_map (λ (l : Leased). adopted_by l.server l.target g) (get old.lives g)
  pub pooled : (g : ℕ) (l : Leased) → get new.lives g ≡ Some l → Contains new.pool l.target
  pub next : old.next ≤ new.next

-- ---- one step

-- What may happen next in the first world, and the world that it leaves. Each constructor is one thing that the hub, the spawner, the proxy
-- or somebody else does
pub data Step : World → World → Type 0 where
  -- the hub starts a server that has no lease, or notes the wish for a stop
  begin : {w : World} (server : ServerKey) (secret : List ℕ) → lease_of w.live.lives server ≡ None
      → free_target w.live.pool w.live.lives ≢ None
      → Step w (begun server secret w)
  ask_stop : {w : World} (g : ℕ) (l : Leased) (made : Life × Todo) → get w.live.lives g ≡ Some l → life_after l.life g AskStop ≡ Ok made
      → Step w (lived g l made w)
  -- the hub takes the outcome of a call in flight
  take : {w v : World} {g : ℕ} {event : LifeEvent} → Takes w g event v → Step w v
  -- the spawner does a start, a stop or a poll, or fails it. A failed start leaves nothing running, a failed stop the program or not
  start_done : {w : World} (id : ℕ) (i : Instance) (secret : List ℕ) → Mem w.sent (call id (start_of i secret))
      → Step w (answered (call id (start_of i secret)) (BySpawner Done) (record w { programs = i ∷ w.programs }))
  start_failed : {w : World} (id : ℕ) (i : Instance) (secret : List ℕ) → Mem w.sent (call id (start_of i secret))
      → Step w (answered (call id (start_of i secret)) (BySpawner Tell.Failed) (record w { programs = without i.generation w.programs }))
  stop_done : {w : World} (id g : ℕ) (target : List ℕ) → Mem w.sent (call id (stop_of g target))
      → Step w (answered (call id (stop_of g target)) (BySpawner Done) (record w { programs = without g w.programs }))
  stop_failed : {w : World} (id g : ℕ) (target : List ℕ) → Mem w.sent (call id (stop_of g target))
      → Step w (answered (call id (stop_of g target)) (BySpawner Tell.Failed) w)
  stop_failed_yet_gone : {w : World} (id g : ℕ) (target : List ℕ) → Mem w.sent (call id (stop_of g target))
      → Step w (answered (call id (stop_of g target)) (BySpawner Tell.Failed) (record w { programs = without g w.programs }))
  polled : {w : World} (id g : ℕ) (target : List ℕ) (b : Bool) → Mem w.sent (call id (poll_of g target)) → TellsWhether w.programs g b
      → Step w (answered (call id (poll_of g target)) (BySpawner (Runs b)) w)
  poll_failed : {w : World} (id g : ℕ) (target : List ℕ) → Mem w.sent (call id (poll_of g target))
      → Step w (answered (call id (poll_of g target)) (BySpawner Tell.Failed) w)
  program_ends : {w : World} (g : ℕ) → Step w (record w { programs = without g w.programs })
  -- a route message arrives, once. One that never does is lost
  addition_arrives : {w : World} (id : ℕ) (path : List ℕ) (entry : RouteEntry) (now : ℕ) (reply : Reply) (table : Table)
      → Mem w.sent (call id (Route (R.Add path entry.target entry.serial))) → Adds w.table path entry now reply table
      → Step w (answered (call id (Route (R.Add path entry.target entry.serial))) (ByProxy reply) (record w { table = table }))
  deletion_arrives : {w : World} (id : ℕ) (path : List ℕ) (serial : ℕ) (reply : Reply) (table : Table)
      → Mem w.sent (call id (Route (R.Delete path serial))) → Deletes w.table path (Some serial) reply table
      → Step w (answered (call id (Route (R.Delete path serial))) (ByProxy reply) (record w { table = table }))
  -- route sync sees ready servers, listed routes, and those of them whose generation isn't live for their path; it makes its calls at any
  -- later step. The hub's own route has no serial
  sync_sees_ready : {w : World} (g : ℕ) (l : Leased) → get w.live.lives g ≡ Some l → l.life.phase ≡ Ready g
      → Step w (record w { were_ready = instance_of g l ∷ w.were_ready })
  sync_sees_listed : {w : World} (path : List (List ℕ)) (r : TableRoute) (serial : ℕ)
      → listed w.table.rows path ≡ Some r → r.entry.serial ≡ Some serial
      → Step w (record w { were_listed = record { path = r.path; serial = serial } ∷ w.were_listed })
  sync_sees_over : {w : World} (path : List ℕ) (g : ℕ) → Mem w.were_listed (record { path = path; serial = 2 * g })
      → ((l : Leased) → get w.live.lives g ≡ Some l → route_path l.server ≢ path)
      → Step w (record w { were_over = record { path = path; serial = 2 * g } ∷ w.were_over })
  sync_adds : {w : World} (i : Instance) → Mem w.were_ready i
      → Step w (send (Route (R.Add (route_path i.server) i.target (Some (2 * i.generation)))) w)
  sync_adds_hub : {w : World} (path target : List ℕ) → Step w (send (Route (R.Add path target None)) w)
  sync_deletes : {w : World} (path : List ℕ) (serial : ℕ) → Mem w.were_over (record { path = path; serial = serial })
      → Step w (send (Route (R.Delete path (serial + 1))) w)
  -- somebody adds a route without a serial, deletes any path with any serial or none, as managed services do, or asks for a route
  other_addition : {w : World} (path : List ℕ) (entry : RouteEntry) (now : ℕ) (reply : Reply) (table : Table)
      → entry.serial ≡ None → Adds w.table path entry now reply table → Step w (record w { table = table })
  other_deletion : {w : World} (path : List ℕ) (serial : Option ℕ) (reply : Reply) (table : Table)
      → Deletes w.table path serial reply table → Step w (record w { table = table })
  look_up : {w : World} (path : List ℕ) (now : ℕ) (found : Result (List ℕ) RouteRefusal) (table : Table)
      → IsLook w.table path now found table → Step w (record w { table = table })
  -- the hub polls a server that was being adopted
  sees_adopting : {w : World} (g : ℕ) (l : Leased) → get w.live.lives g ≡ Some l → l.life.phase ≡ Adopting g
      → Step w (record w { were_adopting = instance_of g l ∷ w.were_adopting })
  polls : {w : World} (i : Instance) → Mem w.were_adopting i → Step w (owe (Some (poll_of i.generation i.target)) w)
  -- the hub is opened again: nobody waits any more, and only route messages stay on their way
  reopen : {w : World} (live : LiveServers) → IsReopened w.live live
      → Step w (record w { live = live; waiting = []; sent = filter is_route_message w.sent })

-- The second world is one after any number of steps from the first
pub data Run : World → World → Type 0 where
  here : {w : World} → Run w w
  then_step : {u v w : World} → Run u v → Step v w → Run u w

-- what an opening left: servers to be adopted, an empty table, no program and nothing on its way
pub record IsOpened (w : World) : Type 0 where
  pub apart : AreApart w.live.pool w.live.lives w.live.next
  pub adopting : (g : ℕ) (l : Leased) → get w.live.lives g ≡ Some l → l ≡ adopted_by l.server l.target g
  pub table : w.table.rows ≡ empty
  pub programs : w.programs ≡ []
  pub waiting : w.waiting ≡ []
  pub sent : w.sent ≡ []
  pub told : w.told ≡ []
  pub were_ready : w.were_ready ≡ []
  pub were_listed : w.were_listed ≡ []
  pub were_over : w.were_over ≡ []
  pub were_adopting : w.were_adopting ≡ []
