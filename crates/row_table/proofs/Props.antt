-- That a store is one of the hub has one proof at most.
use Rattle.std.proofs.Common.{◌≡◌, ℤ, pos, List, sym, ap, ◌∙◌}
use Rattle.std.specs.Coded.{Coded-set, le_prop, ×_prop}
use mathlib.Core.HLevel.{is_prop→PathP}
use Rattle.sqlite.specs.Effect.{Database}
use Rattle.sqlite.specs.Order.{Row, column}
use Rattle.sqlite.specs.declared.types.Value.{Value}
use Rattle.sqlite.specs.declared.types.Value.TheVariants.{Null, Int, Real, Text, Blob}
use Rattle.sqlite_schema.specs.contracts.schema.Schema as schema
use Rattle.sqlite_value.specs.contracts.row.Row as row
use Rattle.row_table.specs.Stored.{stored, IsStored, IsRowTable, IsRowStore}
use Rattle.row_table.proofs.Loaded.{number_in, bytes_in}

abbrev int_in : Value → ℤ
int_in Null = pos 0
int_in (Int n) = n
int_in (Real x) = pos 0
int_in (Text t) = pos 0
int_in (Blob b) = pos 0

-- a row says of which parts it is
IsStored-prop : (r : Row) → IsProp (IsStored r)
IsStored-prop r s t =
    let same : stored s.0 s.1 s.2 s.3 ≡ stored t.0 t.1 t.2 t.3 = sym s.4 ∙ t.4 in
    let ids : s.0 ≡ t.0 = ap (λ x. int_in (column x 0)) same in
    let kinds : s.1 ≡ t.1 = ap (λ x. number_in (column x 1)) same in
    let keys : s.2 ≡ t.2 = ap (λ x. bytes_in (column x 2)) same in
    let texts : s.3 ≡ t.3 = ap (λ x. bytes_in (column x 3)) same in
    λ i. (ids i, kinds i, keys i, texts i, is_prop→PathP (λ j. r ≡ stored (ids j) (kinds j) (keys j) (texts j)) (λ j. Coded-set row.the_row.coded r (stored (ids j) (kinds j) (keys j) (texts j))) s.4 t.4 i)

IsRowTable-prop : (tree : List Row) → IsProp (IsRowTable tree)
IsRowTable-prop tree a b = λ i. record {
  apart = λ id. le_prop (a.apart id) (b.apart id) i;
  formed = λ r there. IsStored-prop r (a.formed r there) (b.formed r there) i;
  once = λ x y p q k n. Coded-set row.the_row.coded x y (a.once x y p q k n) (b.once x y p q k n) i;
}

pub IsRowStore-prop : (db : Database) → IsProp (IsRowStore db)
IsRowStore-prop db = ×_prop (Coded-set schema.the_row.coded _ _) (IsRowTable-prop (db.trees 0))
