-- Rows that are kept under an id and found by a hash.
use Rattle.std.specs.Prelude.{◌≡◌, ℕ, ◌-◌, ◌^◌, ◌==◌, Bool, false, ◌&&◌, ◌||◌, not, IsTrue, List, Option, Some, None, if◌then◌else◌}
use Rattle.std.specs.Ordering.{nat_cmp, eq_by_cmp}
use Rattle.std.specs.List.{find}
use Rattle.std.specs.FinMap.{FinMap, get, remove, values}
use Rattle.hub_kit.specs.KeyOrder.{name_cmp}
use Rattle.row_indexes.specs.Numbers.{number_of}

-- the first row that has the hash, in the order of the ids
abbrev pub row_with : {X : Type 0} → (X → List ℕ) → List ℕ → FinMap nat_cmp X → Option X
row_with hash_of hash rows = find (λ row. eq_by_cmp name_cmp (hash_of row) hash) (values rows)

-- a row may stand under its id: no other has its hash, and one that it replaces has the same
pub record FitsHash {X : Type 0} (id_of : X → ℕ) (hash_of : X → List ℕ) (rows : FinMap nat_cmp X) (value : X) : Type 0 where
  pub no_other : (id : ℕ) (row : X) → get rows id ≡ Some row → hash_of row ≡ hash_of value → id ≡ id_of value
  pub same : (row : X) → get rows (id_of value) ≡ Some row → hash_of row ≡ hash_of value

-- what stands for an id under a number that several rows may have
abbrev pub several : ℕ
several = 2 ^ 64 - 1

abbrev pub leads : (id : ℕ) → Option ℕ → Bool
leads id None = false
leads id (Some kept) = kept == several || kept == id

-- each row is found by the number of its hash: its id stands there, or that several rows may have it
abbrev pub IsIndexed : {X : Type 0} → (X → List ℕ) → FinMap nat_cmp X → FinMap nat_cmp ℕ → Type 0
IsIndexed {X} hash_of rows ids = (id : ℕ) (row : X) → get rows id ≡ Some row → IsTrue (leads id (get ids (number_of (hash_of row))))

-- what an id is put as, where another may stand
abbrev pub entry_for : (id : ℕ) → Option ℕ → ℕ
entry_for id None = id
entry_for id (Some kept) = several

-- an id stands there, and no other row can have the number
abbrev pub is_alone : (id : ℕ) → Option ℕ → Bool
is_alone id None = false
is_alone id (Some kept) = kept == id && not (id == several)

-- an id is taken from under a number where it stands alone
abbrev pub without_id : (number id : ℕ) → FinMap nat_cmp ℕ → FinMap nat_cmp ℕ
without_id number id ids = if is_alone id (get ids number) then remove ids number else ids

-- a row that passes a test
abbrev pub only_with : {X : Type 0} → (X → Bool) → X → Option X
only_with test row = if test row then Some row else None
