use Rattle.std.proofs.Common.{◌≡◌, Bool}
use Rattle.std.specs.BTreeMap as tree
use Rattle.std.specs.List.{find}
use Rattle.std.specs.Ordering.{eq_by_cmp}
use Rattle.hub_kit.specs.KeyOrder.{name_cmp}
use Rattle.row_indexes.proofs.hashed.scanned.Given as goal

abbrev pub invariant-loop-row : goal.invariant-loop-row
invariant-loop-row g l =
    let has : g.row.R.Denot → Bool = λ row. eq_by_cmp name_cmp (g.R.Hashed.hash_of row) l.hash in
    find has l.row-iterator ≡ find has (tree.values l.rows)
