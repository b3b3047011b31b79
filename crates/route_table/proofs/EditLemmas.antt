-- A row that is changed or added.
use Rattle.std.proofs.Common.{Option, Some, ◌≡◌, ℕ, ◌<◌, ◌≤◌, ◌+◌, ◌-◌, ◌≢◌, false, List, length, get_or, set, sym, ap, ◌∙◌, subst, arith, inl, inr}
use Rattle.std.proofs.lemmas.Bool.{cases_lt}
use Rattle.std.specs.Ordering.{eq_by_cmp, is_eq}
use Rattle.std.specs.List.{insert, remove}
use Rattle.std.specs.declared.cmp.Ordering.TheVariants.{Less}
use Rattle.std.proofs.lemmas.List.Edits.{length-insert, get_or-insert_below, get_or-insert_at, get_or-insert_above}
use Rattle.std.specs.FinMap as fin
use Rattle.route_table.specs.Path.{parts, segments_cmp, decoded_parts, IsKey}
use Rattle.route_table.specs.Rows.{RowBox, rows_of, KeysRise, AreKeys}
use Rattle.route_table.specs.Search.{IsTheRow, IsListedAt, IsRowAt, IsGapAt}
use Rattle.std.specs.Option.{option_map}
use Rattle.std.proofs.lemmas.List.{get_or_default}
use Rattle.route_table.specs.declared.route.Route.{Route}
use Rattle.route_table.specs.Table.{listed, touched, touched_route, seen_of}
use Rattle.route_table.proofs.SearchLemmas.{segments_total, segments_exact, below_from_above}
use Rattle.route_table.proofs.PlacedLemmas.{map_insert, map_set, map_remove}
use Rattle.route_table.proofs.RowLemmas.{key_of, kept_of, value_of, untied_up_to, untied_before, untied_below, listed_there, row_under}

-- the path's row, changed
pub rows_set : (rows : List RowBox) (path : List ℕ) (at : ℕ) (row : RowBox) → KeysRise rows → IsRowAt rows path at → key_of row ≡ decoded_parts path
    → rows_of (set rows at row) ≡ fin.insert (rows_of rows) (decoded_parts path) (value_of row)
rows_set rows path at row rise is same =
    map_set segments_total segments_exact key_of value_of rows row at row is.within (is.same row ∙ sym same)
    (λ j d lt within. ap (λ k. eq_by_cmp segments_cmp k (key_of (get_or rows j d))) same ∙ untied_before rows path at rise is j d lt within)
    ∙ ap (λ k. fin.insert (rows_of rows) k (value_of row)) same

module _ (rows : List RowBox) (path : List ℕ) (at : ℕ) (row : RowBox) (gap : IsGapAt rows path at) (same : key_of row ≡ decoded_parts path) where
  pub rows_insert : rows_of (insert rows at row) ≡ fin.insert (rows_of rows) (decoded_parts path) (value_of row)
  rows_insert =
      map_insert segments_total segments_exact key_of value_of rows row at gap.within
      (λ j d lt within. ap (λ k. eq_by_cmp segments_cmp k (key_of (get_or rows j d))) same ∙ untied_below (key_of (get_or rows j d)) (decoded_parts path) (gap.below j d lt))
      ∙ ap (λ k. fin.insert (rows_of rows) k (value_of row)) same

  -- where an element of the new list comes from
  data From (i : ℕ) (d : RowBox) : Type 0 where
    before : i < at → get_or (insert rows at row) i d ≡ get_or rows i d → From i d
    here : i ≡ at → get_or (insert rows at row) i d ≡ row → From i d
    after : (k : ℕ) → i ≡ k + 1 → at ≤ k → get_or (insert rows at row) i d ≡ get_or rows k d → From i d

  from : (i : ℕ) (d : RowBox) → From i d
  from i d = elim (cases_lt i at) as (λ _. From i d) [
    | inl lt ↦ before lt (get_or-insert_below rows at row d i lt gap.within)
    | inr ge ↦ elim (cases_lt at i) as (λ _. From i d) [
      | inl gt ↦ let one : i - 1 + 1 ≡ i = omega arith in
          after (i - 1) (sym one) (omega arith) (subst (λ (n : ℕ). get_or (insert rows at row) n d ≡ get_or rows (i - 1) d) one (get_or-insert_above rows at row d (i - 1) (omega arith) gap.within))
      | inr le ↦ let is : i ≡ at = omega arith in here is (subst (λ (n : ℕ). get_or (insert rows at row) n d ≡ row) (sym is) (get_or-insert_at rows at row d gap.within))
    ]
  ]

  key_above : (k : ℕ) (d : RowBox) → at ≤ k → k < length rows → segments_cmp (key_of row) (key_of (get_or rows k d)) ≡ Less
  key_above k d le lt = ap (λ q. segments_cmp q (key_of (get_or rows k d))) same ∙ below_from_above (key_of (get_or rows k d)) (decoded_parts path) (gap.above k d le lt)

  key_below : (k : ℕ) (d : RowBox) → k < at → segments_cmp (key_of (get_or rows k d)) (key_of row) ≡ Less
  key_below k d lt = ap (segments_cmp (key_of (get_or rows k d))) same ∙ gap.below k d lt

  both : (i j : ℕ) (d a b : RowBox) → get_or (insert rows at row) i d ≡ a → get_or (insert rows at row) j d ≡ b → segments_cmp (key_of a) (key_of b) ≡ Less
      → segments_cmp (key_of (get_or (insert rows at row) i d)) (key_of (get_or (insert rows at row) j d)) ≡ Less
  both i j d a b e f h = ap (λ x. segments_cmp (key_of x) (key_of (get_or (insert rows at row) j d))) e ∙ (ap (λ x. segments_cmp (key_of a) (key_of x)) f ∙ h)

  pub rise_insert : KeysRise rows → KeysRise (insert rows at row)
  rise_insert rise i j d lt within =
      let long : length (insert rows at row) ≡ length rows + 1 = length-insert rows at row gap.within in
      elim (from i d) as (λ _. segments_cmp (key_of (get_or (insert rows at row) i d)) (key_of (get_or (insert rows at row) j d)) ≡ Less) [
        | before a e ↦ elim (from j d) as (λ _. segments_cmp (key_of (get_or (insert rows at row) i d)) (key_of (get_or (insert rows at row) j d)) ≡ Less) [
          | before b f ↦ both i j d _ _ e f (rise i j d lt (omega (arith, b, gap.within)))
          | here b f ↦ both i j d _ _ e f (key_below i d a)
          | after k b le f ↦ both i j d _ _ e f (rise i k d (omega (arith, a, le)) (omega (arith, b, long, within)))
        ]
        | here a e ↦ elim (from j d) as (λ _. segments_cmp (key_of (get_or (insert rows at row) i d)) (key_of (get_or (insert rows at row) j d)) ≡ Less) [
          | before b f ↦ absurd (omega (arith, a, b, lt))
          | here b f ↦ absurd (omega (arith, a, b, lt))
          | after k b le f ↦ both i j d _ _ e f (key_above k d le (omega (arith, b, long, within)))
        ]
        | after m a le e ↦ elim (from j d) as (λ _. segments_cmp (key_of (get_or (insert rows at row) i d)) (key_of (get_or (insert rows at row) j d)) ≡ Less) [
          | before b f ↦ absurd (omega (arith, a, b, lt, le))
          | here b f ↦ absurd (omega (arith, a, b, lt, le))
          | after k b le2 f ↦ both i j d _ _ e f (rise m k d (omega (arith, a, b, lt)) (omega (arith, b, long, within)))
        ]
      ]

  pub keys_insert : AreKeys rows → IsKey row.value.key → AreKeys (insert rows at row)
  keys_insert keys key i d within =
      let long : length (insert rows at row) ≡ length rows + 1 = length-insert rows at row gap.within in
      elim (from i d) as (λ _. IsKey (get_or (insert rows at row) i d).value.key) [
        | before a e ↦ subst (λ (x : RowBox). IsKey x.value.key) (sym e) (keys i d (omega (arith, a, gap.within)))
        | here a e ↦ subst (λ (x : RowBox). IsKey x.value.key) (sym e) key
        | after k a le e ↦ subst (λ (x : RowBox). IsKey x.value.key) (sym e) (keys k d (omega (arith, a, long, within)))
      ]

module _ (rows : List RowBox) (path : List ℕ) (at : ℕ) (rise : KeysRise rows) (is : IsRowAt rows path at) where
  lone : (j : ℕ) (d : RowBox) → j ≢ at → j < length rows → eq_by_cmp segments_cmp (decoded_parts path) (key_of (get_or rows j d)) ≡ false
  lone j d other within = elim (cases_lt j at) as (λ _. eq_by_cmp segments_cmp (decoded_parts path) (key_of (get_or rows j d)) ≡ false) [
    | inl lt ↦ untied_before rows path at rise is j d lt within
    | inr ge ↦ ap is_eq (ap (λ k. segments_cmp k (key_of (get_or rows j d))) (sym (is.same d)) ∙ rise at j d (omega (arith, other, ge)) within)
  ]

  pub rows_remove : (row : RowBox) → rows_of (remove rows at) ≡ fin.remove (rows_of rows) (decoded_parts path)
  rows_remove row = map_remove segments_total segments_exact key_of value_of rows (decoded_parts path) at row is.within (is.same row) lone

-- the route at a place, used now
pub touched_rows : (rows : List RowBox) (at : ℕ) (old new : RowBox) (now : ℕ) → KeysRise rows → old ≡ get_or rows at old
    → new.value ≡ record old.value { route = option_map (touched_route now) old.value.route } → (k : List (List ℕ)) (r : Route) → IsListedAt rows k at → listed (rows_of rows) k ≡ Some r
    → rows_of (set rows at new) ≡ touched (rows_of rows) k r now
touched_rows rows at old new now rise is made k r place found =
    let here : IsTheRow rows at old.value = λ d. ap (λ (b : RowBox). b.value) (get_or_default rows at d old place.within ∙ sym is) in
    let route : old.value.route ≡ Some r = sym (listed_there rows at old.value rise here k place) ∙ found in
    let kept = row_under rows at old.value rise here k place.within place.same in
    let old_key : key_of old ≡ k = sym (ap (λ v. parts v.key) (here old)) ∙ place.same old in
    let new_key : key_of new ≡ k = ap (λ v. parts v.key) made ∙ old_key in
    map_set segments_total segments_exact key_of value_of rows new at old place.within (place.same old ∙ sym new_key)
    (λ j d lt within. ap (λ q. eq_by_cmp segments_cmp q (key_of (get_or rows j d))) new_key ∙ untied_up_to rows k at rise place.within place.same j d lt within)
    ∙ (ap (λ q. fin.insert (rows_of rows) q (value_of new)) new_key
    ∙ ap (λ v. fin.insert (rows_of rows) k v)
    (ap kept_of made
    ∙ (ap (λ (o : Option Route). record { route = option_map (touched_route now) o; seen = old.value.seen }) route
    ∙ ap (λ (n : Option ℕ). record { route = Some (touched_route now r); seen = n }) (sym (ap seen_of kept)))))
