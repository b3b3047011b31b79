-- The two tables of a store, as the texts make them in an empty one.
use Rattle.std.specs.Prelude.{ℕ, Bool, true, false, List, [], ◌∷◌, None, codes}
use Rattle.sqlite.specs.Change.{created}
use Rattle.sqlite.specs.Collation.TheVariants.{Binary}
use Rattle.sqlite.specs.Kind.{Kind}
use Rattle.sqlite.specs.Kind.TheVariants.{Integer, Text}
use Rattle.sqlite.specs.Schema.{Schema}
use Rattle.sqlite.specs.Table.{Table}
use Rattle.sqlite.specs.declared.types.Value.TheVariants.{Null}
use Rattle.sqlite_schema.specs.declared.schema.Column.{Column}
use Rattle.sqlite_schema.specs.declared.schema.Index.{Index}

-- a column of a STRICT table without a default
abbrev pub plain_column : List ℕ → Kind → Bool → Column
plain_column name kind not_null = record
    { name = name; kind = kind; is_strict = true; not_null = not_null; default = Null; collation = Binary }

-- the index of a primary key
abbrev pub plain_index : List ℕ → ℕ → ℕ → List ℕ → Index
plain_index name tree table columns = record {
  name = name;
  tree = tree;
  table = table;
  columns = columns;
  order = record { digits = 0 };
  is_unique = true;
}

-- the columns count from 1, since place 0 is that of the rowid
abbrev pub row_table : Table
row_table = record {
  name = codes "row";
  tree = 0;
  columns = plain_column (codes "kind") Integer true
      ∷ plain_column (codes "key") Text true
      ∷ plain_column (codes "text") Text false ∷ [];
  key = None;
  primary = 1 ∷ 2 ∷ [];
  uniques = (1 ∷ 2 ∷ []) ∷ [];
  orders = (record { digits = 0 }) ∷ [];
  checks = [];
  references = [];
  computed = [];
  stamps = record { places = []; terms = []; formats = [] };
  is_counted = false;
}

-- tree 1 is that of the index of table row
abbrev pub meta_table : Table
meta_table = record {
  name = codes "meta";
  tree = 2;
  columns = plain_column (codes "name") Text true
      ∷ plain_column (codes "value") Integer false ∷ [];
  key = None;
  primary = 1 ∷ [];
  uniques = (1 ∷ []) ∷ [];
  orders = (record { digits = 0 }) ∷ [];
  checks = [];
  references = [];
  computed = [];
  stamps = record { places = []; terms = []; formats = [] };
  is_counted = false;
}

abbrev pub no_schema : Schema
no_schema = record { tables = []; indexes = []; views = [] }

abbrev pub row_schema : Schema
row_schema = created no_schema row_table

-- both tables, each with its index
abbrev pub store_schema : Schema
store_schema = created row_schema meta_table
