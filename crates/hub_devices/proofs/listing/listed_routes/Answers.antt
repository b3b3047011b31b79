use Rattle.std.proofs.Common.{◌≡◌, ℕ, List, map, Option, Result, Ok, Err, Vec, Global}
use Rattle.std.specs.Prelude.{IfOk}
use Rattle.std.specs.BTreeMap.{BTreeMap, get, IsOrdered}
use Rattle.std.specs.Cmp.Lexicographic.{slice_cmp}
use Rattle.std.specs.Ordering.{nat_cmp}
use Rattle.hub_devices.specs.Routes.{Lists, route_from, route_of}
use Rattle.hub_devices.specs.declared.calls.ListedRoute.{ListedRoute}
use Rattle.hub_devices.proofs.RouteLemmas.{Lists_map}
use Rattle.hub_devices.proofs.listing.listed_routes.Goals as goal

in_a_list : {E : Type 0} (routes : List ListedRoute) (table : BTreeMap (List ℕ) (List ℕ × Option ℕ)) (made : Result (Vec ListedRoute Global) E)
    → IfOk made (λ (l : Vec ListedRoute Global). l.items ≡ map route_from table.entries) → IsOrdered (slice_cmp nat_cmp) table
    → ((path : List ℕ) → get (slice_cmp nat_cmp) table path ≡ route_of routes path) → IfOk made (λ (l : Vec ListedRoute Global). Lists routes l.items)
in_a_list routes table (Ok listed) is ordered same = Lists_map routes listed.items table is ordered same
in_a_list routes table (Err e) is ordered same = tt

pub returns : goal.returns
returns c = in_a_list c.args.routes.now c.in_ok-table.table c.in_order.result c.in_order.ensures.routes c.in_order.ensures.ordered c.in_ok-table.ensures
