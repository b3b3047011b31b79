-- Lists of routes, by their paths.
use Rattle.std.specs.Prelude.{◌≡◌, ℕ, List, map, Option, if◌then◌else◌}
use Rattle.std.specs.Cmp.Lexicographic.{slice_cmp}
use Rattle.std.specs.List.Sorted.{IsStrictlySortedBy}
use Rattle.std.specs.Map.{lookup}
use Rattle.std.specs.Ordering.{nat_cmp}
use Rattle.hub_devices.specs.declared.calls.ListedRoute.{ListedRoute}
use Rattle.hub_devices.specs.NamedFiles.{same_text}

-- a route as its path, with its target and serial
abbrev pub entry_of : ListedRoute → List ℕ × (List ℕ × Option ℕ)
entry_of route = (route.path, (route.target, route.serial))

abbrev pub route_from : List ℕ × (List ℕ × Option ℕ) → ListedRoute
route_from entry = record { path = entry.0; target = entry.1.0; serial = entry.1.1 }

-- the target and serial of the route of a path; of equal paths the first counts
abbrev pub route_of : List ListedRoute → List ℕ → Option (List ℕ × Option ℕ)
route_of routes path = lookup (λ other. same_text path other) (map entry_of routes)

-- this path has this route now, if any, and each other path has what it had
pub record Puts (before : List ListedRoute) (path : List ℕ) (now : Option (List ℕ × Option ℕ)) (after : List ListedRoute) : Type 0 where
  pub puts : (other : List ℕ) → route_of after other ≡ (if same_text other path then now else route_of before other)

-- these are the routes, one for each path, in the order of paths by their bytes
pub record Lists (routes listed : List ListedRoute) : Type 0 where
  pub in_order : IsStrictlySortedBy (slice_cmp nat_cmp) (map (λ route. route.path) listed)
  pub same : (path : List ℕ) → route_of listed path ≡ route_of routes path
