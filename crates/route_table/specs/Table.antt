-- The table of routes.
use Rattle.std.specs.Prelude.{◌≡◌, ℕ, ◌<◌, Bool, true, false, nat_lt, nat_le, List, ◌++◌, length, Option, Some, None, Result, Ok, Err}
use Rattle.std.specs.Prelude.{is_some, if◌then◌else◌}
use Rattle.std.specs.Option.{option_map, option_to_list}
use Rattle.std.specs.List.{flat_map}
use Rattle.std.specs.FinMap.{FinMap, get, insert, remove, len, values}
use Rattle.route_table.specs.declared.route.Route.{Route}
use Rattle.route_table.specs.declared.route.RouteEntry.{RouteEntry}
use Rattle.route_table.specs.declared.route.RouteRefusal.{RouteRefusal}
use Rattle.route_table.specs.declared.route.RouteRefusal.TheVariants.{NotFound, Stale, BadPath, Full, Memory}
use Rattle.route_table.specs.Path.{segments, segments_cmp, bad_place, listed_path}

-- a path's route and the greatest serial seen for it
pub record PathRow : Type 0 where
  pub route : Option Route
  pub seen : Option ℕ

-- the rows by their segments
pub record Table : Type 0 where
  pub rows : FinMap segments_cmp PathRow
  pub limit : ℕ

abbrev pub route_of : Option PathRow → Option Route
route_of None = None
route_of (Some row) = row.route

abbrev pub seen_of : Option PathRow → Option ℕ
seen_of None = None
seen_of (Some row) = row.seen

-- the route that is listed under these segments
abbrev pub listed : FinMap segments_cmp PathRow → List (List ℕ) → Option Route
listed rows s = route_of (get rows s)

-- no listed path's segments are a prefix
abbrev pub HasNoPrefix : FinMap segments_cmp PathRow → List (List ℕ) → Type 0
HasNoPrefix rows s = (k rest : List (List ℕ)) → s ≡ k ++ rest → listed rows k ≡ None

-- the listed route whose segments are a prefix and are the most
pub record Best (rows : FinMap segments_cmp PathRow) (s k : List (List ℕ)) (r : Route) : Type 0 where
  pub rest : List (List ℕ)
  pub is_prefix : s ≡ k ++ rest
  pub is_listed : listed rows k ≡ Some r
  pub is_longest : (longer more : List (List ℕ)) → s ≡ longer ++ more → length k < length longer → listed rows longer ≡ None

-- the first refusal of a path
abbrev pub bad_path : List ℕ → Option RouteRefusal
bad_path path = option_map BadPath (bad_place path)

-- a serial that was given, against the greatest seen: refused where `old given seen`
abbrev pub stale : (ℕ → ℕ → Bool) → Option ℕ → Option ℕ → Option RouteRefusal
stale old None seen = None
stale old (Some given) None = None
stale old (Some given) (Some seen) = if old given seen then Some (Stale given seen) else None

-- a new path where there is no room
abbrev pub full : ℕ → FinMap segments_cmp PathRow → Option PathRow → Option RouteRefusal
full limit rows None = if nat_le limit (len rows) then Some (Full limit) else None
full limit rows (Some row) = None

-- the first that there is
abbrev pub first_of : Option RouteRefusal → Option RouteRefusal → Option RouteRefusal
first_of None b = b
first_of (Some r) b = Some r

-- why a change with these segments and this serial is refused
abbrev pub put_refusal : (ℕ → ℕ → Bool) → ℕ → FinMap segments_cmp PathRow → List (List ℕ) → Option ℕ → Option RouteRefusal
put_refusal old limit rows s serial = first_of (stale old serial (seen_of (get rows s))) (full limit rows (get rows s))

-- why an addition is refused: the path, then its serial, then the limit
abbrev pub add_refusal : Table → List ℕ → Option ℕ → Option RouteRefusal
add_refusal t path serial = first_of (bad_path path) (put_refusal nat_lt t.limit t.rows (segments path) serial)

-- the greatest serial seen, once this one was given too
abbrev pub seen_after : Option ℕ → Option ℕ → Option ℕ
seen_after None seen = seen
seen_after (Some given) seen = Some given

-- the route that an addition lists
abbrev pub new_route : List (List ℕ) → RouteEntry → ℕ → Route
new_route s entry now = record { path = listed_path s; entry = entry; last_activity = now }

-- the rows with one more route
abbrev pub with_route : FinMap segments_cmp PathRow → List (List ℕ) → RouteEntry → ℕ → FinMap segments_cmp PathRow
with_route rows s entry now = insert rows s
    (record { route = Some (new_route s entry now); seen = seen_after entry.serial (seen_of (get rows s)) })

abbrev pub added : Table → List (List ℕ) → RouteEntry → ℕ → Table
added t s entry now = record t { rows = with_route t.rows s entry now }

-- why a deletion is refused, before its path's route is looked for
abbrev pub drop_refusal : ℕ → FinMap segments_cmp PathRow → List (List ℕ) → Option ℕ → Option RouteRefusal
drop_refusal limit rows s None = None
drop_refusal limit rows s (Some given) = put_refusal nat_le limit rows s (Some given)

abbrev pub delete_refusal : Table → List ℕ → Option ℕ → Option RouteRefusal
delete_refusal t path serial = first_of (bad_path path) (drop_refusal t.limit t.rows (segments path) serial)

-- the rows without the path's route, and with the serial
abbrev pub without_route : FinMap segments_cmp PathRow → List (List ℕ) → Option ℕ → FinMap segments_cmp PathRow
without_route rows s None = remove rows s
without_route rows s (Some seen) = insert rows s (record { route = None; seen = Some seen })

abbrev pub without : FinMap segments_cmp PathRow → List (List ℕ) → Option ℕ → FinMap segments_cmp PathRow
without rows s serial = without_route rows s (seen_after serial (seen_of (get rows s)))

abbrev pub deleted : Table → List (List ℕ) → Option ℕ → Table
deleted t s serial = record t { rows = without t.rows s serial }

-- what a call answers: the first refusal exactly where there is one, or want of memory
abbrev pub IsAnswer : {A : Type 0} → Option RouteRefusal → Result A RouteRefusal → Type 0
IsAnswer refusal (Ok _) = refusal ≡ None
IsAnswer refusal (Err Memory) = refusal ≡ None
IsAnswer refusal (Err e) = refusal ≡ Some e

-- what a deletion answers: a refusal; else whether the path's route was listed. Memory is wanted only for a new path's serial
abbrev pub IsDeletion : Table → List ℕ → Option ℕ → Result (Unit {0}) RouteRefusal → Type 0
IsDeletion t path serial (Ok _) = (delete_refusal t path serial ≡ None) × (is_some (listed t.rows (segments path)) ≡ true)
IsDeletion t path serial (Err NotFound) = (delete_refusal t path serial ≡ None) × (is_some (listed t.rows (segments path)) ≡ false)
IsDeletion t path serial (Err Memory) = (delete_refusal t path serial ≡ None) × (get t.rows (segments path) ≡ None)
    × (is_some serial ≡ true)
IsDeletion t path serial (Err e) = delete_refusal t path serial ≡ Some e

-- the table after a deletion: `NotFound` records the serial
abbrev pub IsAfterDeletion : Table → List ℕ → Option ℕ → Table → Result (Unit {0}) RouteRefusal → Type 0
IsAfterDeletion t path serial t' (Ok _) = t' ≡ deleted t (segments path) serial
IsAfterDeletion t path serial t' (Err NotFound) = t' ≡ deleted t (segments path) serial
IsAfterDeletion t path serial t' (Err _) = t' ≡ t

-- what a look-up answers: never for want of memory
abbrev pub IsFound : Table → List ℕ → Result Route RouteRefusal → Type 0
IsFound t path (Ok r) = (bad_place path ≡ None) × (k : List (List ℕ)) × Best t.rows (segments path) k r
IsFound t path (Err NotFound) = (bad_place path ≡ None) × HasNoPrefix t.rows (segments path)
IsFound t path (Err (BadPath at)) = bad_place path ≡ Some at
IsFound t path (Err _) = ⊥

abbrev pub touched_route : ℕ → Route → Route
touched_route now r = record r { last_activity = now }

-- the rows once the route of these segments was asked for
abbrev pub touched : FinMap segments_cmp PathRow → List (List ℕ) → Route → ℕ → FinMap segments_cmp PathRow
touched rows k r now = insert rows k (record { route = Some (touched_route now r); seen = seen_of (get rows k) })

-- a look-up of these segments gave the target of the best route, whose last activity is now
pub record Looked (rows : FinMap segments_cmp PathRow) (s : List (List ℕ)) (now : ℕ) (target : List ℕ)
    (rows' : FinMap segments_cmp PathRow) : Type 0 where
  pub at : List (List ℕ)
  pub route : Route
  pub is_best : Best rows s at route
  pub is_target : target ≡ route.entry.target
  pub after : rows' ≡ touched rows at route now

-- what a look-up of segments finds, and what it leaves of the rows
abbrev pub IsLooked : {E : Type 0} → FinMap segments_cmp PathRow → List (List ℕ) → ℕ → Result (Option (List ℕ)) E
    → FinMap segments_cmp PathRow → Type 0
IsLooked rows s now (Ok (Some target)) rows' = Looked rows s now target rows'
IsLooked rows s now (Ok None) rows' = HasNoPrefix rows s × (rows' ≡ rows)
IsLooked rows s now (Err e) rows' = rows' ≡ rows

-- what a look-up of a path answers, and what it leaves of the table
abbrev pub IsLook : Table → List ℕ → ℕ → Result (List ℕ) RouteRefusal → Table → Type 0
IsLook t path now (Ok target) t' = (bad_place path ≡ None) × Looked t.rows (segments path) now target t'.rows × (t'.limit ≡ t.limit)
IsLook t path now (Err NotFound) t' = (bad_place path ≡ None) × HasNoPrefix t.rows (segments path) × (t' ≡ t)
IsLook t path now (Err (BadPath at)) t' = (bad_place path ≡ Some at) × (t' ≡ t)
IsLook t path now (Err Memory) t' = (bad_place path ≡ None) × (t' ≡ t)
IsLook t path now (Err _) t' = ⊥

-- the refusals of a look-up: by the path alone, or that nothing was found, or want of memory
abbrev pub IsLookRefusal : List ℕ → RouteRefusal → Type 0
IsLookRefusal path (BadPath at) = bad_place path ≡ Some at
IsLookRefusal path NotFound = bad_place path ≡ None
IsLookRefusal path Memory = bad_place path ≡ None
IsLookRefusal path e = ⊥

-- the routes, in the order of their segments
abbrev pub routes_in : FinMap segments_cmp PathRow → List Route
routes_in rows = flat_map (λ row. option_to_list row.route) (values rows)

-- whether a route was last used before a moment, or none is asked for
abbrev pub is_idle_since : Option ℕ → Route → Bool
is_idle_since None r = true
is_idle_since (Some since) r = nat_lt r.last_activity since
