-- Which calls bring a proxy's routes into step with the servers.
use Rattle.std.specs.Prelude.{◌≡◌, ℕ, ◌+◌, ◌*◌, ◌/◌, ◌%◌, ◌==◌, Bool, false, not, ◌&&◌, if◌then◌else◌, List, [], ◌∷◌, ◌++◌, codes, nat_eq}
use Rattle.std.specs.Prelude.{Option, Some, None}
use Rattle.std.specs.Cmp.Lexicographic.{pointwise}
use Rattle.std.specs.List.{filter_map, list_any}
use Rattle.hub_devices.specs.declared.calls.ListedRoute.{ListedRoute}
use Rattle.hub_kit.specs.declared.names.ServerKey.{ServerKey}
use Rattle.hub_lives.specs.Lives.{Lives}
use Rattle.hub_machine.specs.State.{Hub}
use Rattle.server_work.specs.RoutePaths.{route_path}
use Rattle.hub_core.specs.Live.{AreReady, server_of}
use Rattle.hub_core.specs.Visits.{Entry, Reached}
use Rattle.hub_core.specs.declared.live.LiveServer.{LiveServer}
use Rattle.hub_core.specs.declared.start.Start.{Start}
use Rattle.hub_sync.specs.declared.calls.RouteCall.{RouteCall}
use Rattle.hub_sync.specs.declared.calls.RouteCall.TheVariants.{Add, Delete}

-- A route with this path is in the list of routes
abbrev pub is_listed : List ListedRoute → List ℕ → Bool
is_listed routes path = list_any (λ (r : ListedRoute). pointwise nat_eq r.path path) routes

-- ---- what is added

-- The route to the hub itself, at the path `/`, where it has a target and the list has no route there
abbrev pub hub_additions : List ListedRoute → Option (List ℕ) → List RouteCall
hub_additions routes None = []
hub_additions routes (Some target) = if is_listed routes (codes "/") then [] else Add (codes "/") target None ∷ []

-- The call that adds the route of this ready server, with the serial of its generation, where the list has no route at its path
abbrev pub addition_of : List ListedRoute → LiveServer → Option RouteCall
addition_of routes s =
    if is_listed routes (route_path s.server) then None
    else Some (Add (route_path s.server) s.target (Some (2 * s.generation)))

-- ---- what is deleted

-- The path is that of the server's route, if there is a server
abbrev is_of : List ℕ → Option ServerKey → Bool
is_of path None = false
is_of path (Some server) = pointwise nat_eq (route_path server) path

-- The generation g is live for the server of this path; a path that is no server's has no live generation
abbrev pub is_live_at : Lives → List ℕ → ℕ → Bool
is_live_at lives path g = is_of path (server_of lives g)

-- The call that deletes the route at this path, if one is due. A route that a hub added has an even serial, twice its generation; it is
-- deleted, with the next serial, where that generation isn't live for the path. A route without a serial, or with an odd one, stays
abbrev pub deletion_by : Lives → List ℕ → Option ℕ → Option RouteCall
deletion_by lives path None = None
deletion_by lives path (Some serial) =
    if (serial % 2 == 0) && not (is_live_at lives path (serial / 2)) then Some (Delete path (serial + 1)) else None

-- The call that deletes this listed route, if one is due by the live servers
abbrev pub deletion_of : Lives → ListedRoute → Option RouteCall
deletion_of lives r = deletion_by lives r.path r.serial

-- ---- all calls

-- These are the calls that bring the listed routes into step with the live servers and with the hub's target, if it has one: first the
-- hub's own route, then those of the ready servers in the order of their keys, and then the deletions in the order of the list
pub record IsPlan (lives : Lives) (hub : Option (List ℕ)) (routes : List ListedRoute) (calls : List RouteCall) : Type 0 where
  pub servers : List LiveServer
  pub ready : AreReady lives servers
  pub calls_are : calls ≡ hub_additions routes hub ++ filter_map (addition_of routes) servers ++ filter_map (deletion_of lives) routes

-- where the hub's own route leads: to the target that a state has, or to the one that is given, if one is
abbrev pub target_of : Bool → Option (List ℕ) → Hub → Option (List ℕ)
target_of own given s = if own then s.hub_url else given

-- the calls are the plan in the state that the entries lead to, for a hub whose own route leads to this target of that state
pub record IsPlanFor (start : Start) (entries : List Entry) (hub : Hub → Option (List ℕ)) (routes : List ListedRoute)
    (calls : List RouteCall) : Type 0 where
  pub state : Hub
  pub reached : Reached start entries state
  pub plan : IsPlan state.lives (hub state) routes calls

-- The same where the target of the hub's own route is known from outside, if it has one
abbrev pub IsPlanAt : Start → List Entry → Option (List ℕ) → List ListedRoute → List RouteCall → Type 0
IsPlanAt start entries hub = IsPlanFor start entries (λ (s : Hub). hub)
