-- What each statement does to the rows, in the words of SQL.
use Rattle.std.proofs.Common.{◌≡◌, ◌⊎◌, true, false, [], ◌∷◌, Some, None, List, Bool, ℕ, ℤ, pos, negsuc, map, filter, drop}
use Rattle.std.specs.List.{list_all}
use Rattle.std.specs.List.Sorted.{IsPermutation, IsSorted}
use Rattle.sqlite.specs.Term.{Term, lit, col, op2, holds}
use Rattle.sqlite.specs.Tree.{rowid}
use Rattle.sqlite.specs.Edit.{id_in, without_all, with_rowid, put_all, numbered, are_fresh}
use Rattle.sqlite.specs.Query.{Query, Output, inner, end, output_cmp}
use Rattle.sqlite.specs.Cast.{cast_row}
use Rattle.sqlite.specs.Rowids.TheVariants.{Chosen, Given}
use Rattle.sqlite_rules.specs.Keys.{conflicts}
use Rattle.sqlite_rules.specs.Lists.{Has}
use Rattle.sqlite_sql.specs.declared.ops.BinaryOp.TheVariants.{Compare}
use Rattle.sqlite_sql.specs.declared.ops.CompareOp.TheVariants.{Eq}
use Rattle.sqlite.specs.Collation.TheVariants.{Binary}
use Rattle.sqlite.specs.declared.types.Value.TheVariants.{Null, Int, Text as Words}
use Rattle.sqlite.specs.Order.{Row, column}
use Rattle.sqlite.specs.declared.types.Value.{Value}
use Rattle.row_table.specs.Tables.{row_table, store_schema}

-- the two tests of the DELETE, at these parameters
abbrev pub tests : List Term
tests = op2 (Compare Eq Binary) (col 1 1) (col 0 0) ∷ op2 (Compare Eq Binary) (col 1 2) (col 0 1) ∷ []

abbrev pub is_named : Row → Row → Bool
is_named params row = list_all (holds (params ∷ row ∷ [])) tests

abbrev pub params_of : ℕ → List ℕ → Row
params_of kind key = Int (pos kind) ∷ Words key ∷ []

-- the rows that have this kind and key are gone, and no other
abbrev pub IsWithout : ℕ → List ℕ → List Row → List Row → Type 0
IsWithout kind key old new = (ids : List ℤ) × IsPermutation (map (λ r. id_in (rowid r)) (filter (is_named (params_of kind key)) old)) ids × (new ≡ without_all old ids)

-- the whole table in order
abbrev pub listed : Query
listed = record {
  from = inner 0 end;
  filter = [];
  group = None;
  project = col 1 1 ∷ col 1 2 ∷ col 1 3 ∷ [];
  distinct = false;
  collations = [];
  order = (col 1 1, record { collation = Binary; descending = false }) ∷ (col 1 2, record { collation = Binary; descending = false }) ∷ [];
  limit = lit (Int (negsuc 0));
  offset = lit (Int (pos 0));
}

-- what a row is sorted by, and what is shown of it
abbrev pub in_list : Row → Output
in_list row = (column row 1 ∷ column row 2 ∷ [], column row 1 ∷ column row 2 ∷ column row 3 ∷ [])

-- all rows, in the order of kind and key
pub record IsListing (tree rows : List Row) : Type 0 where
  pub ordered : List Output
  pub same : IsPermutation (map in_list tree) ordered
  pub sorted : IsSorted (output_cmp listed) ordered
  pub shown : rows ≡ map (λ (o : Output). o.1) ordered

-- the row that a put is to make, with the rowid that is chosen for it
abbrev pub new_row : List Row → ℕ → List ℕ → List ℕ → Row
new_row tree kind key text = with_rowid Chosen tree (cast_row row_table (Null ∷ Int (pos kind) ∷ Words key ∷ Words text ∷ []))

-- SQL's test that the row has this rowid
abbrev pub has_id : Value → Row → Bool
has_id id row = list_all (holds ((Null ∷ Null ∷ Null ∷ id ∷ []) ∷ row ∷ [])) (op2 (Compare Eq Binary) (col 1 0) (col 0 3) ∷ [])

-- the row with another text, behind its rowid, as the update takes it
abbrev pub with_text : Value → Row → Row
with_text text row = rowid row ∷ rowid row ∷ column row 1 ∷ column row 2 ∷ text ∷ []

-- SQL's test that the row has the kind and key of the new one
abbrev pub has_key_of : Row → Row → Bool
has_key_of new row = conflicts (Some (1 ∷ 2 ∷ [])) store_schema.indexes row_table new row

-- no row had the key, and the new one is there
abbrev pub IsAdded : Row → List Row → List Row → Type 0
IsAdded row old new = ((r : Row) → Has old r → has_key_of row r ≡ true → ⊥) × (new ≡ put_all old (cast_row row_table row ∷ [])) × (are_fresh old (cast_row row_table row ∷ []) ≡ true)

-- the rows that take the place of the one that is there
abbrev pub mended : List Row → List Row
mended rows = map (λ s. cast_row row_table (drop 1 s)) rows

abbrev pub ids_of : List Row → List ℤ
ids_of = map (λ x. id_in (rowid x))

-- the row r had the key, and has the new text
abbrev pub IsChanged : Row → Row → List Row → List Row → Type 0
IsChanged row r old new = Has old r × (has_key_of row r ≡ true) × ((rows : List Row)
    × IsPermutation (map (with_text (column row 3)) (filter (has_id (rowid r)) old)) rows
    × (new ≡ put_all (without_all old (ids_of rows)) (numbered Given (without_all old (ids_of rows)) (mended rows)))
    × (are_fresh (without_all old (ids_of rows)) (numbered Given (without_all old (ids_of rows)) (mended rows)) ≡ true))

abbrev pub Puts : ℕ → List ℕ → List ℕ → List Row → List Row → Type 0
Puts kind key text old new = IsAdded (new_row old kind key text) old new ⊎ ((r : Row) × IsChanged (new_row old kind key text) r old new)
