-- What is told of the connections that were served.
use Rattle.std.specs.Prelude.{◌≡◌, ℕ, List, [], ◌∷◌, map, flat_map, drop, length, All, Option, Some, Result}
use Rattle.desk.specs.Passes.{PassState}
use Rattle.desk.specs.OwnEntries.{placed, merged}
use Rattle.http_wire.specs.declared.error.SessionFault.{SessionFault}
use Rattle.hub_devices.specs.declared.calls.Spawning.{Spawning}
use Rattle.hub_devices.specs.declared.calls.Routing.{Routing}
use Rattle.hub_devices.specs.declared.calls.Told.{Told}
use Rattle.hub_core.specs.Visits.{Entry}
use Rattle.hub_core.specs.Views.{Faults, View, view_of}
use Rattle.hub_core.specs.declared.kit.HubKit.{HubKit}
use Rattle.hub_core.specs.declared.start.Start.{Start}
use Rattle.hub_run.specs.Connections.{ConnectionEnds, Goes, Known, StreamTold}
use Rattle.hub_run.specs.declared.served.Served.{Served}
use Rattle.hub_serve.specs.Shifts.{Ends, count_of, split_from, shifts_of}
use Rattle.hub_serve.specs.declared.tally.Connection.{Connection}
use Rattle.hub_serve.specs.declared.tally.Tally.{Tally}

-- a connection that was served: what its worker's pass, its devices and its two streams told before it and after it; and how it ended
pub record Session : Type 0 where
  pub before : Known
  pub after : Known
  pub ended : Result Served SessionFault

-- The connection ended as connections do for a book that began with `start`, and no count of its streams' faults fell
abbrev pub IsConnectionOver : Start → Session → Type 0
IsConnectionOver start s = ConnectionEnds start s.before s.after s.ended × Goes s.before s.after

-- what the devices of a worker tell: the moments and the draws to come, the calls of the spawner and of the route link, and the faults
pub record DevicesTold : Type 0 where
  pub clock : Option (ℕ → ℕ)
  pub draws : Option (List (List ℕ))
  pub spawner : Option (List (Spawning × Told))
  pub routes : Option (List (Routing × Told))
  pub faults : Faults

-- What the devices tell in a view
abbrev pub devices_in : View → DevicesTold
devices_in x = record { clock = x.clock; draws = x.draws; spawner = x.spawner; routes = x.routes; faults = x.faults }

-- What the devices of its worker told before it
abbrev pub devices_before : Session → DevicesTold
devices_before s = devices_in s.before.view

-- What the devices of its worker told after it
abbrev pub devices_after : Session → DevicesTold
devices_after s = devices_in s.after.view

-- What the own entries of its worker's pass grew by in it, each with its place
abbrev pub gained : Session → List (ℕ × Entry)
gained s = drop (length s.before.view.pass.mine) s.after.view.pass.mine

-- These connections came behind that one, each where the one before it had left the pass and the devices
abbrev pub GoOn : Session → List Session → Type 0
GoOn s [] = Unit {0}
GoOn s (t ∷ ts) = (t.before.view ≡ s.after.view) × GoOn t ts

-- These are all connections of a worker, whose pass was split off the pass p
abbrev pub GoFrom : PassState Entry Start → List Session → Type 0
GoFrom p [] = Unit {0}
GoFrom p (s ∷ ss) = (s.before.view.pass ≡ split_from p) × GoOn s ss

-- Own entries, with all that the connections of these workers gained, in the order of their places
abbrev pub with_gains : List (ℕ × Entry) → List (List Session) → List (ℕ × Entry)
with_gains mine [] = mine
with_gains mine (ss ∷ rest) = with_gains (merged mine (flat_map gained ss)) rest

-- for each worker the connections that it served, so many in all. Each ended as it has to, and the book has the entries that the pass p had
-- made of it before and those that they gained, each at its place, and no other
pub record AreServed (start : Start) (p : PassState Entry Start) (entries : List Entry) (number : ℕ) (workers : List (List Session)) : Type
    0 where
  pub count : count_of workers ≡ number
  pub each : All (λ ss. All (IsConnectionOver start) ss) workers
  pub follow : All (GoFrom p) workers
  pub whole : placed 0 entries ≡ with_gains p.mine workers

-- ---- as plain values

-- what the devices of a kit tell
abbrev pub devices_of : {S P C R : Type 0} → (C → Option (ℕ → ℕ)) → (R → Option (List (List ℕ))) → (S → Option (List (Spawning × Told)))
    → (P → Option (List (Routing × Told))) → (R → ℕ) → (S → ℕ) → (P → ℕ) → HubKit S P C R → DevicesTold
devices_of to_come draws spawned linked draw_faults spawn_faults route_faults kit = record {
  clock = to_come kit.clock;
  draws = draws kit.random;
  spawner = spawned kit.spawner;
  routes = linked kit.routes;
  faults = record { random = draw_faults kit.random; spawner = spawn_faults kit.spawner; routes = route_faults kit.routes };
}

-- What is known of a pass and a kit, with what both streams tell
abbrev pub known_with : View → StreamTold → StreamTold → Known
known_with view input output = record { view = view; input = input; output = output }

-- One connection ended so, which began with the pass p, the kit k and streams that told i and o, and left those with a prime and q. The
-- first seven arguments say what the devices of a kit tell; they stand in front since a kit's types are the caller's
abbrev pub EndsAsConnection : {S P C R : Type 0} → (C → Option (ℕ → ℕ)) → (R → Option (List (List ℕ)))
    → (S → Option (List (Spawning × Told))) → (P → Option (List (Routing × Told)))
    → (R → ℕ) → (S → ℕ) → (P → ℕ) → Ends (PassState Entry Start) (HubKit S P C R)
EndsAsConnection to_come draws spawned linked draw_faults spawn_faults route_faults p k i o q k' i' o' ended =
    let view = view_of to_come draws spawned linked draw_faults spawn_faults route_faults in
    ((start : Start) → p.base ≡ Some start → ConnectionEnds start (known_with (view p k) i o) (known_with (view q k') i' o') ended)
    × Goes (known_with (view p k) i o) (known_with (view q k') i' o')

module _ {S P C R I O : Type 0} (to_come : C → Option (ℕ → ℕ)) (draws : R → Option (List (List ℕ)))
    (spawned : S → Option (List (Spawning × Told)))
    (linked : P → Option (List (Routing × Told))) (draw_faults : R → ℕ) (spawn_faults : S → ℕ) (route_faults : P → ℕ)
    (told : I → StreamTold) (wrote : O → StreamTold) where
  abbrev view : PassState Entry Start → HubKit S P C R → View
  view = view_of to_come draws spawned linked draw_faults spawn_faults route_faults

  -- A connection of the tally, as what its parts tell
  abbrev pub session_of : Connection (PassState Entry Start) (HubKit S P C R) I O → Session
  session_of c = record {
    before = known_with (view c.before.pass.value c.before.kit.value) (told c.before.input.value) (wrote c.before.output.value);
    after = known_with (view c.after.pass.value c.after.kit.value) (told c.after.input.value) (wrote c.after.output.value);
    ended = c.ended;
  }

  -- For each worker of the tally its connections, as what their parts tell
  abbrev pub sessions_of : Tally (PassState Entry Start) (HubKit S P C R) I O → List (List Session)
  sessions_of tally = map (λ cs. map session_of cs) (shifts_of tally)
