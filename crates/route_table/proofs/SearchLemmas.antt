-- What a search among rows in order tells.
use Rattle.std.proofs.Common.{◌≡◌, ℕ, ◌<◌, ◌≤◌, ◌+◌, List, map, length, get_or, None, sym, ap, ◌∙◌, subst, arith, inl, inr}
use Rattle.std.specs.declared.cmp.Ordering.{Ordering}
use Rattle.std.specs.declared.cmp.Ordering.TheVariants.{Less, Greater}
use Rattle.std.specs.Ordering.{nat_cmp, ordering_reverse}
use Rattle.std.proofs.lemmas.Bool.{cases_lt}
use Rattle.std.proofs.lemmas.List.{get_or_default}
use Rattle.std.specs.Cmp.{IsTotalOrder}
use Rattle.std.specs.Cmp.Lexicographic.{slice_cmp, lists_total, nat_list_cmp_total}
use Rattle.std.specs.FinMap.{IsAntisymmetric, slice_cmp-IsAntisymmetric, nat_cmp-IsAntisymmetric}
use Rattle.percent_encoding.specs.Percent.{percent_decode}
use Rattle.route_table.specs.Path.{parts, rank, segments_cmp, slash_escape, IsKey}
use Rattle.route_table.specs.declared.row.Row.{Row}
use Rattle.route_table.specs.Search.{IsTheRow}
use Rattle.route_table.specs.Rows.{RowBox, KeysRise, AreKeys}
use Rattle.route_table.proofs.PartLemmas.{order_keys, parts_decode, key_decode}

pub segments_total : IsTotalOrder segments_cmp
segments_total = lists_total nat_list_cmp_total

pub segments_exact : IsAntisymmetric segments_cmp
segments_exact = slice_cmp-IsAntisymmetric (slice_cmp-IsAntisymmetric nat_cmp-IsAntisymmetric)

-- turned round
pub above_from_below : (a b : List (List ℕ)) → segments_cmp a b ≡ Less → segments_cmp b a ≡ Greater
above_from_below a b h = segments_total.antisymm b a ∙ ap ordering_reverse h

pub below_from_above : (a b : List (List ℕ)) → segments_cmp a b ≡ Greater → segments_cmp b a ≡ Less
below_from_above a b h = segments_total.antisymm b a ∙ ap ordering_reverse h

module _ (rows : List RowBox) (path : List ℕ) (rise : KeysRise rows) (keys : AreKeys rows) (key : IsKey path) (clear : slash_escape path ≡ None) where
  abbrev q : List (List ℕ)
  q = map percent_decode (parts path)

  -- how a row compares with the path
  pub order_is : (i : ℕ) (d : RowBox) → i < length rows → slice_cmp nat_cmp (map rank (get_or rows i d).value.key) (map rank (percent_decode path)) ≡ segments_cmp (parts (get_or rows i d).value.key) q
  order_is i d within =
      order_keys (get_or rows i d).value.key (percent_decode path) (keys i d within) (key_decode path key)
      ∙ ap (segments_cmp (parts (get_or rows i d).value.key)) (parts_decode path clear key)

  -- the rows up to one that is below are below
  pub below_up_to : (at : ℕ) → at < length rows → ((d : RowBox) → segments_cmp (parts (get_or rows at d).value.key) q ≡ Less)
      → (i : ℕ) (d : RowBox) → i < at + 1 → segments_cmp (parts (get_or rows i d).value.key) q ≡ Less
  below_up_to at within less i d lt = elim (cases_lt i at) as (λ _. segments_cmp (parts (get_or rows i d).value.key) q ≡ Less) [
    | inl before ↦ segments_total.trans (parts (get_or rows i d).value.key) (parts (get_or rows at d).value.key) q (rise i at d before within) (less d)
    | inr after ↦ let same : i ≡ at = omega arith in subst (λ (n : ℕ). segments_cmp (parts (get_or rows n d).value.key) q ≡ Less) (sym same) (less d)
  ]

  -- the rows from one that is above on are above
  pub above_from : (at : ℕ) → at < length rows → ((d : RowBox) → segments_cmp (parts (get_or rows at d).value.key) q ≡ Greater)
      → (i : ℕ) (d : RowBox) → at ≤ i → i < length rows → segments_cmp (parts (get_or rows i d).value.key) q ≡ Greater
  above_from at within greater i d le lt = elim (cases_lt at i) as (λ _. segments_cmp (parts (get_or rows i d).value.key) q ≡ Greater) [
    | inl before ↦ above_from_below q (parts (get_or rows i d).value.key)
        (segments_total.trans q (parts (get_or rows at d).value.key) (parts (get_or rows i d).value.key) (below_from_above (parts (get_or rows at d).value.key) q (greater d)) (rise at i d before lt))
    | inr after ↦ let same : at ≡ i = omega arith in subst (λ (n : ℕ). segments_cmp (parts (get_or rows n d).value.key) q ≡ Greater) same (greater d)
  ]

  -- what one comparison tells of the row at its place
  pub compared : (at : ℕ) (row : Row) (r : Ordering) → at < length rows → IsTheRow rows at row
      → r ≡ slice_cmp nat_cmp (map rank row.key) (map rank (percent_decode path)) → (d : RowBox) → segments_cmp (parts (get_or rows at d).value.key) q ≡ r
  compared at row r within is told d =
      sym (order_is at d within) ∙ (ap (λ (x : Row). slice_cmp nat_cmp (map rank x.key) (map rank (percent_decode path))) (is d) ∙ sym told)
