use Rattle.std.proofs.Common.{◌≡◌, ◌++◌, List, map}
use Rattle.std.specs.BTreeMap as tree
use Rattle.std.specs.List.{filter}
use Rattle.keyed_rows.specs.Sorted.{is_among}
use Rattle.row_indexes.proofs.members.scanned_keys.Given as goal

abbrev pub invariant-loop-row : goal.invariant-loop-row
invariant-loop-row g l =
    let found : List g.row.R.Denot → List g.row.K.Denot = λ rows. map g.R.Keyed.key_of (filter (λ row. is_among g.M.Ord.cmp l.member (g.R.HasMembers.members_of row)) rows) in
    l.keys.items ++ found l.row-iterator ≡ found (tree.values l.rows)
