-- The routes that a proxy's reply lists: an object (RFC 8259) from path to route. Other keys of a route are ignored.
use Rattle.std.specs.Prelude.{◌≡◌, ℕ, ◌==◌, List, [], ◌∷◌, ◌++◌, codes, Option, Some, None, option_map, option_and_then, if◌then◌else◌}
use Rattle.serde_json.specs.Data.{Data, Members, no_members, member}
use Rattle.serde_json.specs.Find.{get, as_str, as_object}
use Rattle.hub_devices.specs.declared.calls.ListedRoute.{ListedRoute}
use Rattle.hub_link.specs.Replies.{Says}
use Rattle.request_parts.specs.Bodies.{◌>>=◌, body_object, number_at}

abbrev pub target_at : Data → Option (List ℕ)
target_at route = get (codes "target") route >>= as_str

abbrev pub route_with : List ℕ → Option (List ℕ) → Option (Option ℕ) → Option ListedRoute
route_with path target serial = do
  target ← target
  serial ← serial
  Some (record { path = path; target = target; serial = serial })

-- a route has a target; its serial may be absent or null
abbrev pub route_in : List ℕ → Data → Option ListedRoute
route_in path route = route_with path (target_at route) (number_at (codes "serial") route)

abbrev pub each_route : Members → Option (List ListedRoute)
each_route no_members = Some []
each_route (member path value rest) = do
  first ← route_in path value
  others ← each_route rest
  Some (first ∷ others)

abbrev pub routes_at : Data → Option (List ListedRoute)
routes_at listing = as_object listing >>= each_route

-- the routes that a body lists, if it is such an object
abbrev pub routes_in : List ℕ → Option (List ListedRoute)
routes_in [] = None
routes_in (b ∷ bytes) = body_object (b ∷ bytes) >>= routes_at

-- a reply lists routes with status 200
abbrev pub listed_in : Option (ℕ × List ℕ) → Option (List ListedRoute)
listed_in None = None
listed_in (Some (status, body)) = if status == 200 then routes_in body else None

-- what bytes list, read as a reply
abbrev pub IsListedBy : List ℕ → Option (List ListedRoute) → Type 0
IsListedBy bytes routes = (said : Option (ℕ × List ℕ)) × Says bytes said × (routes ≡ listed_in said)

-- a list with one more, if there is one
abbrev pub pushed : {A : Type 0} → List A → Option A → Option (List A)
pushed list None = None
pushed list (Some a) = Some (list ++ a ∷ [])
