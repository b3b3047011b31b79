-- Files by their names.
use Rattle.std.specs.Prelude.{◌≡◌, ℕ, ◌+◌, nat_eq, Bool, List, take, Option, Some}
use Rattle.std.specs.Cmp.Lexicographic.{pointwise}
use Rattle.std.specs.Map.{lookup}

-- whether two texts have the same bytes
abbrev pub same_text : List ℕ → List ℕ → Bool
same_text = pointwise nat_eq

-- the bytes of the file of a name; the first of equal names counts
abbrev pub file_of : List (List ℕ × List ℕ) → List ℕ → Option (List ℕ)
file_of files name = lookup (λ other. same_text other name) files

-- the bytes are those of the file, or the first `most` + 1 of a longer one
pub record Reads (files : Option (List (List ℕ × List ℕ))) (name : List ℕ) (most : ℕ) (bytes : List ℕ) : Type 0 where
  pub reads : (all : List (List ℕ × List ℕ)) → files ≡ Some all
      → (whole : List ℕ) × (file_of all name ≡ Some whole) × (bytes ≡ take (most + 1) whole)
