-- Rows of a table that are rows of the hub.
use Rattle.std.specs.Prelude.{◌≡◌, ℕ, ℤ, pos, int_lt, List, [], ◌∷◌, Option, Some, None, IsTrue, ⊤}
use Rattle.sqlite.specs.Order.{Row, column}
use Rattle.sqlite.specs.declared.types.Value.TheVariants.{Int, Text}

-- a rowid, a kind, a key and a text
pub record IsOurs (id : ℤ) (row : Row) : Type 0 where
  pub id_is : column row 0 ≡ Int id
  pub kind : (n : ℕ) × (column row 1 ≡ Int (pos n))
  pub key : (s : List ℕ) × (column row 2 ≡ Text s)
  pub text : (s : List ℕ) × (column row 3 ≡ Text s)

abbrev pub IsAbove : Option ℤ → ℤ → Type 0
IsAbove None id = ⊤
IsAbove (Some last) id = IsTrue (int_lt last id)

-- each is one, and their rowids rise from above the last one
abbrev pub AreOursAbove : Option ℤ → List Row → Type 0
AreOursAbove last [] = ⊤
AreOursAbove last (row ∷ rows) = (id : ℤ) × IsOurs id row × IsAbove last id × AreOursAbove (Some id) rows

abbrev pub AreOurs : List Row → Type 0
AreOurs = AreOursAbove None
