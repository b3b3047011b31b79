-- What a proxy's table answers to a change, and what it is then.
use Rattle.std.specs.Prelude.{◌≡◌, ℕ, Bool, true, false, List, Option, Result, Ok, Err, OnOk, OnErr}
use Rattle.hub_devices.specs.declared.calls.Routing.{Routing}
use Rattle.hub_devices.specs.declared.calls.Routing.TheVariants as R
use Rattle.route_table.specs.declared.route.RouteEntry.{RouteEntry}
use Rattle.route_table.specs.declared.route.RouteRefusal.{RouteRefusal}
use Rattle.route_table.specs.declared.route.RouteRefusal.TheVariants.{NotFound, Stale}
use Rattle.route_table.specs.Path.{segments}
use Rattle.route_table.specs.Table.{Table, IsAnswer, IsDeletion, IsAfterDeletion, add_refusal, added}

-- What a table answers to a change: it is done, or refused
abbrev pub Reply : Type 0
Reply = Result (Unit {0}) RouteRefusal

-- An addition of this route at a path, at the moment `now`, led the table from t to t' and was answered so
pub record Adds (t : Table) (path : List ℕ) (entry : RouteEntry) (now : ℕ) (reply : Reply) (t' : Table) : Type 0 where
  pub answer : IsAnswer (add_refusal t path entry.serial) reply
  pub ok : OnOk reply (t' ≡ added t (segments path) entry now)
  pub err : OnErr reply (t' ≡ t)

-- A deletion at a path, with this serial or without one, led the table from t to t' and was answered so
pub record Deletes (t : Table) (path : List ℕ) (serial : Option ℕ) (reply : Reply) (t' : Table) : Type 0 where
  pub answer : IsDeletion t path serial reply
  pub after : IsAfterDeletion t path serial t' reply

-- A call of a hub is done where an addition is answered 201, and a deletion 204, 404 or 409.
abbrev pub is_done : Routing → Reply → Bool
is_done (R.Add path target serial) (Ok u) = true
is_done (R.Delete path serial) (Ok u) = true
is_done (R.Delete path serial) (Err NotFound) = true
is_done (R.Delete path serial) (Err (Stale given seen)) = true
is_done call reply = false
