-- The calls that a visit lets ask the route link, and the reply once it was asked.
use Rattle.std.specs.Prelude.{◌≡◌, Bool, true, false, ◌==◌, if◌then◌else◌, List, [], ◌∷◌, map, codes, Option, Some, None, Result, Ok, Err}
use Rattle.hub_devices.specs.Calls.{told_error}
use Rattle.hub_devices.specs.Routes.{Lists}
use Rattle.hub_devices.specs.declared.calls.ListedRoute.{ListedRoute}
use Rattle.hub_devices.specs.declared.calls.Routing.{Routing}
use Rattle.hub_devices.specs.declared.calls.Routing.TheVariants as Route
use Rattle.hub_devices.specs.declared.calls.Told.{Told}
use Rattle.hub_devices.specs.declared.calls.Told.TheVariants.{Listed}
use Rattle.hub_devices.specs.declared.link_error.LinkError.{LinkError}
use Rattle.hub_devices.specs.declared.link_error.LinkError.TheVariants as Link
use Rattle.hub_view.specs.Json.{Json, pairs, maybe, whole, line}
use Rattle.hub_machine.specs.State.{Hub}
use Rattle.hub_machine.specs.Replies.{Reply, good, good_reply, refusal_reply}
use Rattle.hub_machine.specs.declared.call.Call.{Call}
use Rattle.hub_machine.specs.declared.call.Call.TheVariants.{GetProxy, PostProxy}
use Rattle.hub_machine.specs.declared.refusal.Refusal.TheVariants.{ProxyFault}
use Rattle.hub_core.specs.Visits.{Entry}
use Rattle.hub_core.specs.declared.start.Start.{Start}
use Rattle.hub_run.specs.declared.routed.Way.{Way}
use Rattle.hub_run.specs.declared.routed.Way.TheVariants as Ways
use Rattle.hub_sync.specs.Plans.{IsPlanFor}
use Rattle.hub_sync.specs.Syncing.{SyncTold}
use Rattle.hub_sync.specs.declared.calls.Synced.{Synced}
use Rattle.hub_sync.specs.declared.calls.SyncFault.{SyncFault}
use Rattle.hub_sync.specs.declared.calls.SyncFault.TheVariants as Fault

-- what the route link was asked for: its list, with what came; or to come into step, with all that it was asked and told then, and how that
-- ended
pub data Asking : Type 0 where
  listing : Result (List ListedRoute) LinkError → Asking
  syncing : List (Routing × Told) → Result Synced SyncFault → Asking

-- What a call asks of the route link, if anything
abbrev pub way_of : Call → Option Way
way_of GetProxy = Some Ways.List
way_of PostProxy = Some Ways.Sync
way_of call = None

-- A call that goes this way, if any, goes on where its visit's reply has the status 200
abbrev pub lets_by : Option Way → Reply → Option Way
lets_by way r = if r.status == 200 then way else None

-- Which way the call goes on to the route link after this reply of its visit, if it does
abbrev pub lets : Call → Reply → Option Way
lets call r = lets_by (way_of call) r

-- what was asked is of this kind: a list, or bringing the routes into step
abbrev pub IsAskingOf : Way → Asking → Type 0
IsAskingOf Ways.List (listing came) = Unit {0}
IsAskingOf Ways.Sync (syncing told end) = Unit {0}
IsAskingOf way asking = ⊥

-- ---- what the link was asked and told

-- What is told of an ask for the link's list that was answered so: the routes, or that the link failed, or that memory was wanting
abbrev pub told_list : Result (List ListedRoute) LinkError → Told
told_list (Ok routes) = Listed routes
told_list (Err e) = told_error e

-- all that the link was asked in an asking, each with what it told
abbrev pub told_of : Asking → List (Routing × Told)
told_of (listing came) = (Route.List, told_list came) ∷ []
told_of (syncing told end) = told

-- The route link failed while it was asked so: at its list, or at a call that was to bring it into step. Want of memory is no failure of
-- the link
abbrev pub has_failed : Asking → Bool
has_failed (listing (Err Link.Failed)) = true
has_failed (syncing told (Err Fault.Routes)) = true
has_failed asking = false

-- What brings the routes into step is the plan, with the hub's own target, in the state that the entries `seen` lead to from `start`; a
-- list needs no plan
abbrev pub IsPlanned : Start → List Entry → Asking → Type 0
IsPlanned start seen (listing came) = Unit {0}
IsPlanned start seen (syncing told end) = SyncTold (IsPlanFor start seen (λ (s : Hub). s.hub_url)) told end

-- ---- the reply

-- a route in the body of a listing
abbrev pub route_body : ListedRoute → Json
route_body r = pairs ((codes "serial", maybe whole r.serial) ∷ (codes "target", line r.target) ∷ [])

-- the routes under their paths
abbrev pub routes_body : List ListedRoute → Json
routes_body routes = pairs (map (λ (r : ListedRoute). (r.path, route_body r)) routes)

-- the body that says how many routes were added and deleted
abbrev pub synced_body : Synced → Json
synced_body s = pairs ((codes "added", whole s.added) ∷ (codes "deleted", whole s.deleted) ∷ [])

-- A 200 with this body, and with the revision of the visit's reply `r`
abbrev pub with_body : Reply → Json → Reply
with_body r body = record (good_reply 0 (good 200 body)) { revision = r.revision }

-- 503 `proxy`, with the revision of the visit's reply `r`
abbrev pub proxy_fault : Reply → Reply
proxy_fault r = record (refusal_reply 0 ProxyFault) { revision = r.revision }

-- q is the reply where the link was asked for its list, which came so, after the visit's reply `r`: the routes, one for each path in the
-- order of paths, where of several of one path the first counts; or 503 `proxy` where the link failed. Want of memory has no such reply
abbrev pub IsListReply : Reply → Result (List ListedRoute) LinkError → Reply → Type 0
IsListReply r (Ok routes) q = (shown : List ListedRoute) × Lists routes shown × (q ≡ with_body r (routes_body shown))
IsListReply r (Err Link.Failed) q = q ≡ proxy_fault r
IsListReply r (Err Link.Memory) q = ⊥

-- q is the reply where the link was brought into step, which ended so, after the visit's reply `r`: how many routes were added and deleted,
-- or 503 `proxy` where the link failed. Want of memory has no such reply
abbrev pub IsSyncReply : Reply → Result Synced SyncFault → Reply → Type 0
IsSyncReply r (Ok s) q = q ≡ with_body r (synced_body s)
IsSyncReply r (Err Fault.Routes) q = q ≡ proxy_fault r
IsSyncReply r (Err Fault.Memory) q = ⊥

-- q is the reply that says what came of the asking, in place of the visit's reply `r`
abbrev pub IsSaidOf : Reply → Asking → Reply → Type 0
IsSaidOf r (listing came) q = IsListReply r came q
IsSaidOf r (syncing told end) q = IsSyncReply r end q
