-- Bringing a proxy's routes into step.
use Rattle.std.specs.Prelude.{◌≡◌, ◌⊎◌, ℕ, ◌+◌, List, [], ◌∷◌, ◌++◌, map, Option, Some, Result, Ok, Err}
use Rattle.hub_devices.specs.declared.calls.ListedRoute.{ListedRoute}
use Rattle.hub_devices.specs.declared.calls.Routing.{Routing}
use Rattle.hub_devices.specs.declared.calls.Routing.TheVariants as Route
use Rattle.hub_devices.specs.declared.calls.Told.{Told}
use Rattle.hub_devices.specs.declared.calls.Told.TheVariants.{Done, Listed, NoMemory}
use Rattle.hub_devices.specs.declared.calls.Told.TheVariants as Tell
use Rattle.hub_sync.specs.declared.calls.RouteCall.{RouteCall}
use Rattle.hub_sync.specs.declared.calls.RouteCall.TheVariants as Call
use Rattle.hub_sync.specs.declared.calls.Synced.{Synced}
use Rattle.hub_sync.specs.declared.calls.SyncFault.{SyncFault}
use Rattle.hub_sync.specs.declared.calls.SyncFault.TheVariants as Fault

-- the call as the link is asked it
abbrev pub asked_of : RouteCall → Routing
asked_of (Call.Add path target serial) = Route.Add path target serial
asked_of (Call.Delete path serial) = Route.Delete path serial

-- The call as the link is asked it, with what it tells where it is done
abbrev pub as_done : RouteCall → Routing × Told
as_done c = (asked_of c, Done)

-- 1 for a call that adds a route, and 0 for one that deletes one
abbrev pub added_one : RouteCall → ℕ
added_one (Call.Add path target serial) = 1
added_one (Call.Delete path serial) = 0

-- 1 for a call that deletes a route, and 0 for one that adds one
abbrev pub deleted_one : RouteCall → ℕ
deleted_one (Call.Add path target serial) = 0
deleted_one (Call.Delete path serial) = 1

-- How many of these calls add a route
abbrev pub additions : List RouteCall → ℕ
additions [] = 0
additions (c ∷ cs) = added_one c + additions cs

-- How many of these calls delete a route
abbrev pub deletions : List RouteCall → ℕ
deletions [] = 0
deletions (c ∷ cs) = deleted_one c + deletions cs

-- The numbers that are told in the end are those of the additions and of the deletions among these calls
pub record AllDone (calls : List RouteCall) (s : Synced) : Type 0 where
  pub added_is : s.added ≡ additions calls
  pub deleted_is : s.deleted ≡ deletions calls

-- These calls were made in their order up to one, which failed, and the link tells that; those behind it weren't made
pub record UpToFailure (calls : List RouteCall) (told : List (Routing × Told)) : Type 0 where
  pub made : List RouteCall
  pub last : RouteCall
  pub others : List RouteCall
  pub whole : calls ≡ made ++ last ∷ others
  pub told_is : told ≡ map as_done made ++ (asked_of last, Tell.Failed) ∷ []

-- All that the route link was asked and told, and how that ended. It was asked for its list first, and then the calls which are the plan
-- for that list (`plans` says which these are), up to one that failed. Want of memory comes before the first of these calls, at the list or
-- behind it
abbrev pub SyncTold : (List ListedRoute → List RouteCall → Type 0) → List (Routing × Told) → Result Synced SyncFault → Type 0
SyncTold plans told (Ok s) =
    (routes : List ListedRoute) × (calls : List RouteCall) × plans routes calls × (told ≡ (Route.List, Listed routes) ∷ map as_done calls)
    × AllDone calls s
SyncTold plans told (Err Fault.Routes) =
    (told ≡ (Route.List, Tell.Failed) ∷ [])
    ⊎ ((routes : List ListedRoute) × (calls : List RouteCall) × (changes : List (Routing × Told)) × plans routes calls
    × (told ≡ (Route.List, Listed routes) ∷ changes) × UpToFailure calls changes)
SyncTold plans told (Err Fault.Memory) =
    (told ≡ (Route.List, NoMemory) ∷ []) ⊎ ((routes : List ListedRoute) × (told ≡ (Route.List, Listed routes) ∷ []))
