-- A schema is what its parts are.
use Rattle.std.proofs.Common.{◌≡◌, ◌≤◌, ◌<◌, List, [], ◌∷◌, length, slice_index_or, codes, sym, ap, arith}
use Rattle.std.specs.Fmt.{digits}
use Rattle.sqlite.specs.Schema.{Schema}
use Rattle.row_table.specs.Tables.{plain_index, row_table, meta_table, store_schema}

pub schema_is : (s : Schema) → s.tables ≡ row_table ∷ meta_table ∷ [] → s.indexes ≡ plain_index (codes "sqlite_autoindex_row_1") 1 0 (1 ∷ 2 ∷ []) ∷ plain_index (codes "sqlite_autoindex_meta_1") 3 2 (1 ∷ []) ∷ []
    → s.views ≡ [] → s ≡ store_schema
unfolding digits
schema_is s p q r = λ i. record { tables = p i; indexes = q i; views = r i }

pub indexes_are : (s : Schema) → s ≡ store_schema → s.indexes ≡ plain_index (codes "sqlite_autoindex_row_1") 1 0 (1 ∷ 2 ∷ []) ∷ plain_index (codes "sqlite_autoindex_meta_1") 3 2 (1 ∷ []) ∷ []
unfolding digits
indexes_are s h = ap (λ (t : Schema). t.indexes) h

pub only_item : {X : Type 0} (xs : List X) (x : X) → 1 ≤ length xs → length xs < 2 → x ≡ slice_index_or xs 0 x → xs ≡ x ∷ []
only_item [] x some few is = absurd (omega (arith, some))
only_item (y ∷ []) x some few is = ap (λ z. z ∷ []) (sym is)
only_item (y ∷ z ∷ more) x some few is = absurd (omega (arith, few))
