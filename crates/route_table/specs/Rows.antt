-- The rows of the vector, as a finite map.
use Rattle.std.specs.Prelude.{◌≡◌, Box, ℕ, ◌<◌, List, length, map, Option, slice_index_or}
use Rattle.std.specs.declared.cmp.Ordering.TheVariants.{Less}
use Rattle.std.specs.Option.{option_to_list}
use Rattle.std.specs.List.{flat_map, filter}
use Rattle.route_table.specs.declared.route.Route.{Route}
use Rattle.std.specs.FinMap.{FinMap, from_entries}
use Rattle.std.specs.declared.alloc.Global.{Global}
use Rattle.route_table.specs.Path.{parts, segments_cmp, IsKey}
use Rattle.route_table.specs.declared.row.Row.{Row}
use Rattle.route_table.specs.Table.{PathRow, is_idle_since}

-- a row behind its pointer
abbrev pub RowBox : Type 0
RowBox = Box Row Global

abbrev pub entry_of : RowBox → List (List ℕ) × PathRow
entry_of row = (parts row.value.key, record { route = row.value.route; seen = row.value.seen })

abbrev pub rows_of : List RowBox → FinMap segments_cmp PathRow
rows_of rows = from_entries (map entry_of rows)

-- the keys rise
abbrev pub KeysRise : List RowBox → Type 0
KeysRise rows = (i j : ℕ) (d : RowBox) → i < j → j < length rows
    → segments_cmp (parts (slice_index_or rows i d).value.key) (parts (slice_index_or rows j d).value.key) ≡ Less

-- each key is one
abbrev pub AreKeys : List RowBox → Type 0
AreKeys rows = (i : ℕ) (d : RowBox) → i < length rows → IsKey (slice_index_or rows i d).value.key

-- rows in order, each under a key
pub record AreRows (rows : List RowBox) : Type 0 where
  pub rise : KeysRise rows
  pub keys : AreKeys rows

-- the routes of rows in their order, of those last used before a moment, or of all
abbrev pub idle_in : Option ℕ → List RowBox → List Route
idle_in since rows = flat_map (λ row. filter (is_idle_since since) (option_to_list row.value.route)) rows
