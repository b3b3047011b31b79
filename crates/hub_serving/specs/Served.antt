-- What is done over an opened book: running servers are taken back, the routes are brought into step, and connections are served.
use Rattle.std.specs.Prelude.{◌≡◌, ◌==◌, ◌⊎◌, ℕ, ◌≤◌, ◌<◌, ◌^◌, true, not, List, [], map, length, All, Option, Result, Ok, Err}
use mathlib.Core.List.{IsPrefix}
use Rattle.atomic_table.specs.Seated.{TableId}
use Rattle.desk.specs.Passes.{PassState, IsSamePass, opening}
use Rattle.hub_devices.specs.Calls.{Grows}
use Rattle.hub_devices.specs.Faults.{Rises}
use Rattle.hub_devices.specs.declared.calls.Routing.{Routing}
use Rattle.hub_devices.specs.declared.calls.Told.{Told}
use Rattle.keeper.specs.Rows.{Rows}
use Rattle.server_work.specs.Chains.{Comes, sight}
use Rattle.server_work.specs.declared.adopt.Adopted.{Adopted}
use Rattle.hub_core.specs.Visits.{Entry}
use Rattle.hub_core.specs.declared.start.Start.{Start}
use Rattle.hub_run.specs.Turns.{View}
use Rattle.hub_adopt.specs.Adopting.{TakesBack}
use Rattle.hub_sync.specs.Plans.{IsPlanAt}
use Rattle.hub_sync.specs.Syncing.{SyncTold}
use Rattle.hub_sync.specs.declared.calls.Synced.{Synced}
use Rattle.hub_sync.specs.declared.calls.SyncFault.{SyncFault}
use Rattle.hub_sync.specs.declared.calls.SyncFault.TheVariants as sync
use Rattle.hub_serve.specs.Given.{GaveMore}
use Rattle.hub_serve.specs.Sessions.{AreServed, DevicesTold, Session, devices_after, devices_before}
use Rattle.hub_serve.specs.Shifts.{AreOf}
use Rattle.hub_main.specs.Served.{HasKept}
use Rattle.hub_main.specs.declared.cause.Cause.TheVariants.{Memory}
use Rattle.hub_serving.specs.Hall.{Hall, IsQuiet, NothingAccepted, at_view, view_in}
use Rattle.hub_config.specs.declared.config.ConfigManaged.{ConfigManaged}
use Rattle.service_doors.specs.Tending.{Attended}
use Rattle.hub_serving.specs.Services.{service_of}
use Rattle.hub_serving.specs.Ends.{End, IsWritten, served_line}
use Rattle.hub_serving.specs.declared.end.Ended.{Ended}
use Rattle.hub_serving.specs.declared.end.NotServed.TheVariants.{Because}
use Rattle.hub_serving.specs.declared.plan.Plan.{Plan}

-- As many connections were served as the listener gave: all that were asked for, unless its count of faults rose. The line tells their
-- number, and the devices of the opening weren't asked. h is what is outside before, and h' after it
pub record HasServed (connections : ℕ) (h h' : Hall) (end : Ended) : Type 0 where
  pub given : GaveMore h.doors.given end.count h'.doors.given
  pub most : end.count ≤ connections
  pub all : not end.failed ≡ (end.count == connections)
  pub fault : end.failed ≡ true → Rises h.doors.faults h'.doors.faults
  pub line : IsWritten (served_line end.count) h.output h'.output end.line
  pub clock : h'.clock ≡ h.clock
  pub kit : h'.kit ≡ h.kit

-- How so many connections were served, from h to h'; or memory was wanting before the first of them
abbrev pub Serves : ℕ → Hall → Hall → End → Type 0
Serves connections h h' (Ok end) = HasServed connections h h' end
Serves connections h h' (Err why) = (why ≡ Because Memory) × NothingAccepted h h'

-- The calls on the route link were those that bring its routes into step with the servers of the state which the pass then saw, and with
-- the hub's own target `hub`, up to one that failed. The pass made no entry, and no other device was asked. x is what is known before and y
-- after it, and `answer` how it ended
pub record Syncs (start : Start) (hub : Option (List ℕ)) (x : View) (answer : Result Synced SyncFault) (y : View) : Type 0 where
  pub same : IsSamePass x.pass y.pass
  pub comes : Comes x.pass.alone (sight x.pass) (sight y.pass)
  pub mine : y.pass.mine ≡ x.pass.mine
  pub failed : y.pass.failed ≡ x.pass.failed
  pub told : List (Routing × Told)
  pub calls : Grows x.routes told y.routes
  pub does : SyncTold (IsPlanAt start y.pass.seen hub) told answer
  pub fault : answer ≡ Err sync.Routes → Rises x.faults.routes y.faults.routes
  pub counted : x.faults.routes ≤ y.faults.routes
  pub clock : y.clock ≡ x.clock
  pub draws : y.draws ≡ x.draws
  pub spawner : y.spawner ≡ x.spawner
  pub random : y.faults.random ≡ x.faults.random
  pub spawns : y.faults.spawner ≡ x.faults.spawner

-- The services of the configuration, fewer than 2^32, were tended in rounds, one before the first connection and one after each, and
-- stopped at the end; or there was no memory for them. h is what is outside before, and h' after it
abbrev pub Attends : List ConfigManaged → Hall → Hall → End → Type 0
Attends managed h h' end =
    ((length managed < 2 ^ 32) × ∥ Attended (map service_of managed) h.services h.doors.given h'.services h'.doors.given ∥₁)
    ⊎ ((end ≡ Err (Because Memory)) × (h'.services ≡ h.services))

-- Each of these connections began with what the two sides of a connection tell when the listener gives it
abbrev pub AreGiven : (Option (List ℕ) → Option (List ℕ) → Type 0) → List (List Session) → Type 0
AreGiven Sides workers = All (λ ss. All (λ s. Sides s.before.input.bytes s.before.output.bytes) ss) workers

-- So many connections were served over a book that began with `start`, each on its own two sides, by workers who had the first of these
-- devices and left the second. The pass had made its entries before, and `entries` is the history then
abbrev pub AreServedBy : (Option (List ℕ) → Option (List ℕ) → Type 0) → Start → PassState Entry Start → List Entry → ℕ
    → (kits kits' : List DevicesTold) → Type 0
AreServedBy Sides start pass entries number kits kits' =
    (workers : List (List Session)) × AreServed start pass entries number workers × AreGiven Sides workers
    × AreOf devices_before devices_after kits workers kits'

-- How many connections were served
abbrev pub served_by : End → ℕ
served_by (Ok end) = end.count
served_by (Err why) = 0

-- with such sides of connections
module _ {K : Type 0} (Tells : K → Type 0) (rows : K → Rows) (faults : K → ℕ) (Sides : Option (List ℕ) → Option (List ℕ) → Type 0) where
  -- Connections were served, as many as are told, by workers whose passes were split off this one and whose devices were handed in for
  -- them, and the services tended. The history is what the pass had made of it and what these connections gained, and no more; and the
  -- store has exactly the rows of the state that it left
  pub record EndsReady (start : Start) (pass : PassState Entry Start) (plan : Plan) (h h' : Hall) (k' : K) (end : End) : Type 0 where
    pub serves : Serves plan.connections h h' end
    pub services : Attends plan.managed h h' end
    pub entries : List Entry
    pub begins : IsPrefix pass.seen entries
    pub workers : List (List Session)
    pub are : AreServed start pass entries (served_by end) workers
    pub given : AreGiven Sides workers
    pub devices : AreOf devices_before devices_after h.kits workers h'.kits
    pub kept : HasKept Tells rows faults start entries k'

  -- The routes were brought into step, as far as the link didn't fail, and then connections were served by this plan; or memory was wanting
  -- for that. `pass` is the hub's own pass before, h what is outside then, h' the same afterwards, and k' the store in the end
  pub record EndsSynced (start : Start) (pass : PassState Entry Start) (plan : Plan) (h h' : Hall) (k' : K) (end : End) : Type 0 where
    pub answer : Result Synced SyncFault
    pub synced : View
    pub syncs : Syncs start plan.hub.hub_url (view_in pass h) answer synced
    pub wanting : answer ≡ Err sync.Memory → end ≡ Err (Because Memory)
    pub ends : EndsReady start synced.pass plan (at_view h synced) h' k' end

  -- From the view x on the servers that were being adopted were taken back, and then the routes brought into step and connections served by
  -- this plan. h is what is outside before, h' after it, and k' the store in the end
  pub record EndsBy (start : Start) (x : View) (plan : Plan) (h h' : Hall) (k' : K) (end : End) : Type 0 where
    pub told : Adopted
    pub ready : View
    pub takes : TakesBack start x told ready
    pub ends : EndsSynced start ready.pass plan (at_view h ready) h' k' end

  -- Memory was wanting before the first call of a device: nothing was done, and the store has the rows of a history without entries, where
  -- it tells them
  pub record IsUntouched (start : Start) (h h' : Hall) (k' : K) (end : End) : Type 0 where
    pub wanting : end ≡ Err (Because Memory)
    pub quiet : IsQuiet h h'
    pub kept : HasKept Tells rows faults start [] k'

  -- How the command ends by the first pass of a book that began with `start` and has no entries: memory was wanting before the first call
  -- of a device, or the hub served by this plan
  abbrev pub EndsDesk : Start → PassState Entry Start → Plan → Hall → Hall → K → End → Type 0
  EndsDesk start pass plan h h' k' end = IsUntouched start h h' k' end ⊎ EndsBy start (view_in pass h) plan h h' k' end

  -- How the command ends over a book that was opened with `start`, whose history is empty and whose keeper had counted so many faults:
  -- there was no memory for its first pass, or that pass served
  abbrev pub EndsOver : Start → (counted : ℕ) → Plan → Hall → Hall → K → End → Type 0
  EndsOver start counted plan h h' k' end =
      IsUntouched start h h' k' end ⊎ ((table : TableId) × EndsDesk start (opening table start [] counted) plan h h' k' end)
