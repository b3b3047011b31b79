-- What a source gave and a sink got, where they tell it.
use Rattle.std.specs.Prelude.{◌≡◌, ℕ, List, [], ◌++◌, drop, Option, Some}

-- the items were at the front of what was left, and the rest is left now
pub record Takes {A : Type 0} (before : Option (List A)) (items : List A) (after : Option (List A)) : Type 0 where
  pub leaves : (left : List A) → before ≡ Some left → (rest : List A) × (left ≡ items ++ rest) × (after ≡ Some rest)

-- the bytes stand behind what was held
pub record Appends (before : Option (List ℕ)) (bytes : List ℕ) (after : Option (List ℕ)) : Type 0 where
  pub adds : (held : List ℕ) → before ≡ Some held → after ≡ Some (held ++ bytes)

-- nothing is left
pub record IsEnd (left : Option (List ℕ)) : Type 0 where
  pub none : (bytes : List ℕ) → left ≡ Some bytes → bytes ≡ []

-- what is left of a list from a place on
abbrev pub left_from : {A : Type 0} → ℕ → List A → Option (List A)
left_from at items = Some (drop at items)
