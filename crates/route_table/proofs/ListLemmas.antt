-- The routes of rows in order are those of the finite map.
use Rattle.std.proofs.Common.{◌≡◌, ℕ, suc, ◌<◌, List, [], ◌∷◌, ◌++◌, length, map, get_or, Option, refl, sym, ap, ◌∙◌, arith}
use Rattle.std.proofs.lemmas.List.Elements.{filter-append}
use Rattle.std.specs.Option.{option_to_list}
use Rattle.std.specs.List.{flat_map, filter, AllByRecursion}
use Rattle.std.specs.List.Sorted.{IsStrictlySortedBy}
use Rattle.std.specs.Map.{keys_of}
use Rattle.std.specs.declared.cmp.Ordering.TheVariants.{Less}
use Rattle.keyed_rows.proofs.Finite.{entries_of_sorted}
use Rattle.route_table.specs.Path.{segments_cmp}
use Rattle.route_table.specs.Table.{PathRow, routes_in, is_idle_since}
use Rattle.route_table.specs.Rows.{RowBox, rows_of, entry_of, KeysRise, idle_in}
use Rattle.route_table.proofs.RowLemmas.{key_of}
use Rattle.route_table.proofs.SearchLemmas.{segments_total}

above : (k : List (List ℕ)) (rows : List RowBox) → ((j : ℕ) (d : RowBox) → j < length rows → segments_cmp k (key_of (get_or rows j d)) ≡ Less)
    → AllByRecursion (λ y. segments_cmp k y ≡ Less) (keys_of (map entry_of rows))
above k [] h = tt
above k (row ∷ rows) h = (h 0 row (omega arith), above k rows (λ j d lt. h (suc j) d (omega (arith, lt))))

sorted : (rows : List RowBox) → KeysRise rows → IsStrictlySortedBy segments_cmp (keys_of (map entry_of rows))
unfolding IsStrictlySortedBy
sorted [] rise = tt
sorted (row ∷ rows) rise = (
  above (key_of row) rows (λ j d lt. rise 0 (suc j) d (omega arith) (omega (arith, lt))),
  sorted rows (λ i j d lt within. rise (suc i) (suc j) d (omega (arith, lt)) (omega (arith, within))),
)

routes_are : (rows : List RowBox) → flat_map (λ (row : PathRow). option_to_list row.route) (map (λ e. e.1) (map entry_of rows)) ≡ flat_map (λ (row : RowBox). option_to_list row.value.route) rows
routes_are [] = refl
routes_are (row ∷ rows) = ap (λ ys. option_to_list row.value.route ++ ys) (routes_are rows)

idle_are : (since : Option ℕ) (rows : List RowBox) → idle_in since rows ≡ filter (is_idle_since since) (flat_map (λ (row : RowBox). option_to_list row.value.route) rows)
idle_are since [] = refl
idle_are since (row ∷ rows) =
    ap (λ ys. filter (is_idle_since since) (option_to_list row.value.route) ++ ys) (idle_are since rows)
    ∙ sym (filter-append (is_idle_since since) (option_to_list row.value.route) (flat_map (λ (r : RowBox). option_to_list r.value.route) rows))

pub listed_rows : (since : Option ℕ) (rows : List RowBox) → KeysRise rows → idle_in since rows ≡ filter (is_idle_since since) (routes_in (rows_of rows))
listed_rows since rows rise =
    idle_are since rows
    ∙ ap (filter (is_idle_since since))
    (sym (ap (λ (es : List (List (List ℕ) × PathRow)). flat_map (λ (row : PathRow). option_to_list row.route) (map (λ e. e.1) es)) (entries_of_sorted segments_total (map entry_of rows) (sorted rows rise)) ∙ routes_are rows))
