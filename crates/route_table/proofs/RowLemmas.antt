-- The row of a path among rows in order.
use Rattle.std.proofs.lemmas.Bool.{cases_lt}
use Rattle.std.proofs.Common.{arith, ◌∷◌, [], is_some, true, subst, inl, inr, ◌≡◌, ℕ, ◌<◌, false, List, length, get_or, Some, None, sym, ap, ◌∙◌}
use Rattle.std.specs.declared.cmp.Ordering.TheVariants.{Less, Greater}
use Rattle.std.specs.Ordering.{eq_by_cmp, is_eq}
use Rattle.std.specs.Cmp.{tied_itself}
use Rattle.std.specs.FinMap.{get}
use Rattle.route_table.specs.Path.{parts, segments_cmp, decoded_parts, IsKey}
use Rattle.route_table.specs.Table.{PathRow, route_of, listed}
use Rattle.route_table.specs.Rows.{RowBox, rows_of, KeysRise, AreKeys}
use Rattle.route_table.specs.declared.row.Row.{Row}
use Rattle.route_table.specs.Search.{IsTheRow, IsListedAt, IsRowAt, IsGapAt}
use Rattle.route_table.proofs.SearchLemmas.{segments_total, segments_exact, above_from_below, below_from_above}
use Rattle.route_table.proofs.PlacedLemmas.{get_absent, get_present}

abbrev pub key_of : RowBox → List (List ℕ)
key_of row = parts row.value.key

abbrev pub kept_of : Row → PathRow
kept_of row = record { route = row.route; seen = row.seen }

abbrev pub value_of : RowBox → PathRow
value_of row = kept_of row.value

pub untied_below : (a q : List (List ℕ)) → segments_cmp a q ≡ Less → eq_by_cmp segments_cmp q a ≡ false
untied_below a q h = ap is_eq (above_from_below a q h)

pub untied_above : (a q : List (List ℕ)) → segments_cmp a q ≡ Greater → eq_by_cmp segments_cmp q a ≡ false
untied_above a q h = ap is_eq (below_from_above a q h)

-- the rows before a row have other keys
pub untied_up_to : (rows : List RowBox) (s : List (List ℕ)) (at : ℕ) → KeysRise rows → at < length rows → ((d : RowBox) → key_of (get_or rows at d) ≡ s)
    → (j : ℕ) (d : RowBox) → j < at → j < length rows → eq_by_cmp segments_cmp s (key_of (get_or rows j d)) ≡ false
untied_up_to rows s at rise here same j d lt within =
    untied_below (key_of (get_or rows j d)) s (sym (ap (segments_cmp (key_of (get_or rows j d))) (same d)) ∙ rise j at d lt here)

pub untied_before : (rows : List RowBox) (path : List ℕ) (at : ℕ) → KeysRise rows → IsRowAt rows path at → (j : ℕ) (d : RowBox) → j < at → j < length rows
    → eq_by_cmp segments_cmp (decoded_parts path) (key_of (get_or rows j d)) ≡ false
untied_before rows path at rise is = untied_up_to rows (decoded_parts path) at rise is.within is.same

-- a place has a row
pub one_of : (rows : List RowBox) (at : ℕ) → at < length rows → RowBox
one_of [] at lt = absurd (omega (arith, lt))
one_of (row ∷ rows) at lt = row

module _ (rows : List RowBox) (at : ℕ) (row : Row) (rise : KeysRise rows) (here : IsTheRow rows at row) where
  -- the row under these segments
  pub row_under : (s : List (List ℕ)) → at < length rows → ((d : RowBox) → key_of (get_or rows at d) ≡ s) → get (rows_of rows) s ≡ Some (kept_of row)
  row_under s within same =
      let d = one_of rows at within in
      get_present segments_total segments_exact key_of value_of rows s at d within
      (ap (eq_by_cmp segments_cmp s) (same d) ∙ ap is_eq (tied_itself segments_total s))
      (untied_up_to rows s at rise within same)
      ∙ ap (λ (x : Row). Some (kept_of x)) (here d)

  -- the path's row
  pub row_there : (path : List ℕ) → IsRowAt rows path at → get (rows_of rows) (decoded_parts path) ≡ Some (kept_of row)
  row_there path is = row_under (decoded_parts path) is.within is.same

  -- the route that is listed there
  pub listed_there : (s : List (List ℕ)) → IsListedAt rows s at → listed (rows_of rows) s ≡ row.route
  listed_there s is = ap route_of (row_under s is.within is.same)

  pub some_there : (s : List (List ℕ)) → IsListedAt rows s at → is_some row.route ≡ true
  some_there s is = sym (ap (λ v. is_some v.route) (here (one_of rows at is.within))) ∙ is.there (one_of rows at is.within)

  pub row_parts : (path : List ℕ) → IsRowAt rows path at → parts row.key ≡ decoded_parts path
  row_parts path is = let d = one_of rows at is.within in sym (ap (λ v. parts v.key) (here d)) ∙ is.same d

  pub row_key : AreKeys rows → at < length rows → IsKey row.key
  row_key keys within = let d = one_of rows at within in subst (λ (x : Row). IsKey x.key) (here d) (keys at d within)

-- the path has no row
pub row_absent : (rows : List RowBox) (path : List ℕ) (at : ℕ) → IsGapAt rows path at → get (rows_of rows) (decoded_parts path) ≡ None
row_absent rows path at gap = get_absent segments_total segments_exact key_of value_of rows (decoded_parts path) (λ j d lt within. elim (cases_lt j at) as (λ _. eq_by_cmp segments_cmp (decoded_parts path) (key_of (get_or rows j d)) ≡ false) [
  | inl before ↦ untied_below (key_of (get_or rows j d)) (decoded_parts path) (gap.below j d before)
  | inr after ↦ untied_above (key_of (get_or rows j d)) (decoded_parts path) (gap.above j d after within)
])
