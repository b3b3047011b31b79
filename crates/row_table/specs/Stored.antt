-- The rows of the hub in the table `row`.
use Rattle.std.specs.Prelude.{◌≡◌, ◌≤◌, ℕ, suc, ◌==◌, ℤ, pos, negsuc, Bool, false, ◌&&◌, if◌then◌else◌, List, [], ◌∷◌, bytes_eq, Option}
use Rattle.std.specs.Prelude.{Some, None}
use Rattle.keeper.specs.Rows.{Rows, AreSame}
use Rattle.sqlite.specs.Effect.{Database}
use Rattle.sqlite.specs.Order.{Row, column}
use Rattle.sqlite.specs.Tree.{has_rowid}
use Rattle.sqlite.specs.declared.types.Value.{Value}
use Rattle.sqlite.specs.declared.types.Value.TheVariants as value
use Rattle.sqlite_rules.specs.Lists.{Has}
use Rattle.row_table.specs.Tables.{store_schema}

-- a row as it is stored: its rowid, its kind, its key and its text
abbrev pub stored : ℤ → ℕ → List ℕ → List ℕ → Row
stored id kind key text = value.Int id ∷ value.Int (pos kind) ∷ value.Text key ∷ value.Text text ∷ []

abbrev pub is_number : ℕ → Value → Bool
is_number n value.Null = false
is_number n (value.Int (pos m)) = n == m
is_number n (value.Int (negsuc m)) = false
is_number n (value.Real x) = false
is_number n (value.Text t) = false
is_number n (value.Blob b) = false

abbrev pub is_text : List ℕ → Value → Bool
is_text s value.Null = false
is_text s (value.Int n) = false
is_text s (value.Real x) = false
is_text s (value.Text t) = bytes_eq s t
is_text s (value.Blob b) = false

-- whether the row stands under this kind and key
abbrev pub is_under : ℕ → List ℕ → Row → Bool
is_under kind key row = is_number kind (column row 1) && is_text key (column row 2)

abbrev pub text_in : Value → Option (List ℕ)
text_in value.Null = None
text_in (value.Int n) = None
text_in (value.Real x) = None
text_in (value.Text t) = Some t
text_in (value.Blob b) = None

-- the text of the row of a kind and key
abbrev pub rows_of : List Row → Rows
rows_of [] kind key = None
rows_of (row ∷ rows) kind key = if is_under kind key row then text_in (column row 3) else rows_of rows kind key

abbrev pub IsStored : Row → Type 0
IsStored row = (id : ℤ) × (kind : ℕ) × (key : List ℕ) × (text : List ℕ) × (row ≡ stored id kind key text)

-- what is shown of a row with its rowid
abbrev pub whole : Row → Row
whole row = column row 0 ∷ column row 1 ∷ column row 2 ∷ column row 3 ∷ []

-- how many rows have this rowid
abbrev pub count_at : ℤ → List Row → ℕ
count_at id [] = 0
count_at id (row ∷ rows) = if has_rowid id row then suc (count_at id rows) else count_at id rows

-- no rowid comes twice, each row is one of the hub's, and no kind and key comes twice
pub record IsRowTable (tree : List Row) : Type 0 where
  pub apart : (id : ℤ) → count_at id tree ≤ 1
  pub formed : (row : Row) → Has tree row → IsStored row
  pub once : (a b : Row) → Has tree a → Has tree b → column a 1 ≡ column b 1 → column a 2 ≡ column b 2 → a ≡ b

-- the tables of this program, and its rows in them
abbrev pub IsRowStore : Database → Type 0
IsRowStore db = (db.schema ≡ store_schema) × IsRowTable (db.trees 0)

-- these are the rows
abbrev pub HasRows : Database → Rows → Type 0
HasRows db rows = IsRowStore db × AreSame (rows_of (db.trees 0)) rows
