use Rattle.std.proofs.Common.{◌≡◌, ℕ, ◌≤◌, List, length, drop}
use Rattle.std.specs.BTreeMap.{get}
use Rattle.std.specs.Cmp.Lexicographic.{slice_cmp}
use Rattle.std.specs.Ordering.{nat_cmp}
use Rattle.hub_devices.specs.Routes.{route_of}
use Rattle.hub_devices.proofs.listing.by_path.Given as goal

abbrev pub invariant-loop-at : goal.invariant-loop-at
invariant-loop-at l =
    (l.at ≤ length l.routes) × ((path : List ℕ) → get (slice_cmp nat_cmp) l.table path ≡ route_of (drop l.at l.routes) path)

abbrev pub decreases-loop-at : goal.decreases-loop-at
decreases-loop-at l = l.at
