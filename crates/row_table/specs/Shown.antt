-- The rows of the hub as the database shows them.
use Rattle.std.specs.Prelude.{◌≡◌, pos, List, [], ◌∷◌, map, IsPermutation, IsSorted}
use Rattle.keeper.specs.Rows.{row_cmp}
use Rattle.keeper.specs.declared.keeper.Row.{Row}
use Rattle.sqlite.specs.Order.{column}
use Rattle.sqlite.specs.Order as sql
use Rattle.sqlite.specs.declared.types.Value.{Value}
use Rattle.sqlite.specs.declared.types.Value.TheVariants.{Int, Text}

-- a number and two texts
abbrev pub shown : Row → List Value
shown row = Int (pos row.kind) ∷ Text row.key ∷ Text row.text ∷ []

-- the first three values of a row
abbrev pub front : sql.Row → List Value
front row = column row 0 ∷ column row 1 ∷ column row 2 ∷ []

-- the three values behind the rowid of a row
abbrev pub behind : sql.Row → List Value
behind row = column row 1 ∷ column row 2 ∷ column row 3 ∷ []

-- these show as those do behind their rowids, and are in the order of kind and key
pub record IsInOrder (rows : List sql.Row) (all : List Row) : Type 0 where
  pub kept : List Row
  pub same : map shown kept ≡ map behind rows
  pub moved : IsPermutation kept all
  pub sorted : IsSorted row_cmp all
