use Rattle.std.proofs.Common.{◌≡◌, ℕ, ◌<◌, ◌≤◌, ◌-◌, length, map, get_or}
use Rattle.std.specs.declared.cmp.Ordering.TheVariants.{Less, Greater}
use Rattle.percent_encoding.specs.Percent.{percent_decode}
use Rattle.route_table.specs.Rows.{RowBox}
use Rattle.route_table.specs.Path.{parts, segments_cmp}
use Rattle.route_table.proofs.search.search.Given as goal

abbrev pub invariant-halves : goal.invariant-halves
invariant-halves l = record {
  in_order : l.low ≤ l.high;
  within : l.high ≤ length l.rows;
  below : (i : ℕ) (d : RowBox) → i < l.low → segments_cmp (parts (get_or l.rows i d).value.key) (map percent_decode (parts l.path)) ≡ Less;
  above : (i : ℕ) (d : RowBox) → l.high ≤ i → i < length l.rows → segments_cmp (parts (get_or l.rows i d).value.key) (map percent_decode (parts l.path)) ≡ Greater;
}

abbrev pub decreases-halves : goal.decreases-halves
decreases-halves l = l.high - l.low
