-- How many rows there are.
use Rattle.std.proofs.Common.{◌≡◌, suc, ◌+◌, cond, List, [], ◌∷◌, length, is_some, ap, ◌∙◌, arith, add-one}
use Rattle.std.specs.Ordering.{is_eq}
use Rattle.std.specs.FinMap as fin
use Rattle.std.specs.FinMap.{len-insert, len-empty}
use Rattle.route_table.specs.Path.{segments_cmp}
use Rattle.route_table.specs.Rows.{RowBox, rows_of, KeysRise}
use Rattle.route_table.specs.Table.{PathRow}
use Rattle.route_table.proofs.SearchLemmas.{segments_total, segments_exact}
use Rattle.route_table.proofs.PlacedLemmas.{get_absent}
use Rattle.route_table.proofs.RowLemmas.{key_of, value_of}

pub len_rows : (rows : List RowBox) → KeysRise rows → fin.len (rows_of rows) ≡ length rows
len_rows [] rise = len-empty segments_cmp PathRow
len_rows (row ∷ rows) rise =
    len-insert segments_total (rows_of rows) (key_of row) (value_of row)
    ∙ (ap (λ b. cond b (fin.len (rows_of rows)) (fin.len (rows_of rows) + 1))
    (ap is_some (get_absent segments_total segments_exact key_of value_of rows (key_of row) (λ j d lt within. ap is_eq (rise 0 (suc j) d (omega arith) (omega (arith, within))))))
    ∙ (ap (λ n. n + 1) (len_rows rows (λ i j d lt within. rise (suc i) (suc j) d (omega (arith, lt)) (omega (arith, within)))) ∙ add-one (length rows)))
