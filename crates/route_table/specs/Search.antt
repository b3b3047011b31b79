-- What a search among the rows tells.
use Rattle.std.specs.Prelude.{◌≡◌, ℕ, ◌<◌, ◌≤◌, true, List, ◌++◌, length, map, slice_index_or, Option, Some, None, is_some}
use Rattle.std.specs.declared.cmp.Ordering.TheVariants.{Less, Greater}
use Rattle.percent_encoding.specs.Percent.{percent_decode}
use Rattle.route_table.specs.declared.route.Route.{Route}
use Rattle.route_table.specs.Path.{parts, segments_cmp}
use Rattle.route_table.specs.declared.row.Row.{Row}
use Rattle.route_table.specs.Table.{listed, Best, HasNoPrefix}
use Rattle.route_table.specs.Rows.{RowBox, rows_of}

-- the row that stands at the place
abbrev pub IsTheRow : List RowBox → ℕ → Row → Type 0
IsTheRow rows at row = (d : RowBox) → (slice_index_or rows at d).value ≡ row

-- the row at the place has the path's segments
pub record IsRowAt (rows : List RowBox) (path : List ℕ) (at : ℕ) : Type 0 where
  pub within : at < length rows
  pub same : (d : RowBox) → parts (slice_index_or rows at d).value.key ≡ map percent_decode (parts path)

-- the rows before the place are below the path, and those from it on are above
pub record IsGapAt (rows : List RowBox) (path : List ℕ) (at : ℕ) : Type 0 where
  pub within : at ≤ length rows
  pub below : (i : ℕ) (d : RowBox) → i < at → segments_cmp (parts (slice_index_or rows i d).value.key) (map percent_decode (parts path))
      ≡ Less
  pub above : (i : ℕ) (d : RowBox) → at ≤ i → i < length rows
      → segments_cmp (parts (slice_index_or rows i d).value.key) (map percent_decode (parts path)) ≡ Greater

-- a route is listed under these segments, in the row at the place
pub record IsListedAt (rows : List RowBox) (s : List (List ℕ)) (at : ℕ) : Type 0 where
  pub within : at < length rows
  pub same : (d : RowBox) → parts (slice_index_or rows at d).value.key ≡ s
  pub there : (d : RowBox) → is_some (slice_index_or rows at d).value.route ≡ true

-- the place of the listed route whose segments are a prefix and are the most, or that none is one
abbrev pub IsBestPlace : List RowBox → List (List ℕ) → Option ℕ → Type 0
IsBestPlace rows s None = (k rest : List (List ℕ)) → s ≡ k ++ rest → listed (rows_of rows) k ≡ None
IsBestPlace rows s (Some at) =
    (k rest : List (List ℕ)) × (s ≡ k ++ rest) × IsListedAt rows k at
    × ((k' rest' : List (List ℕ)) → s ≡ k' ++ rest' → length k < length k' → listed (rows_of rows) k' ≡ None)

-- the target of the route with the most segments that is a prefix, and its place
pub record TargetAt (rows : List RowBox) (s : List (List ℕ)) (at : ℕ) (target : List ℕ) : Type 0 where
  pub key : List (List ℕ)
  pub route : Route
  pub place : IsListedAt rows key at
  pub is_best : Best (rows_of rows) s key route
  pub is_target : target ≡ route.entry.target

abbrev pub IsTargetFound : List RowBox → List (List ℕ) → Option (ℕ × List ℕ) → Type 0
IsTargetFound rows s (Some found) = TargetAt rows s found.0 found.1
IsTargetFound rows s None = HasNoPrefix (rows_of rows) s
