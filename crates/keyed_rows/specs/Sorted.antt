-- Lists of keys in order, without repeats.
use Rattle.std.specs.Prelude.{Bool, true, not, ◌&&◌, List, [], ◌∷◌}
use Rattle.std.specs.Bool.{IsTrue}
use Rattle.std.specs.List.{list_any, filter}
use Rattle.std.specs.Ordering.{eq_by_cmp, is_lt}
use Rattle.std.specs.declared.cmp.Ordering.{Ordering}
use Rattle.std.specs.declared.cmp.Ordering.TheVariants.{Less, Equal, Greater}

-- whether a key is in a list
abbrev pub is_among : {K : Type 0} → (K → K → Ordering) → K → List K → Bool
is_among R k ks = list_any (eq_by_cmp R k) ks

-- a key before, at or after the first of a list
abbrev pub placed : {K : Type 0} → Ordering → K → K → (rest with_rest : List K) → List K
placed Less k m rest with_rest = k ∷ m ∷ rest
placed Equal k m rest with_rest = m ∷ rest
placed Greater k m rest with_rest = m ∷ with_rest

-- a key at its place in a list in order
abbrev pub with_key : {K : Type 0} → (K → K → Ordering) → K → List K → List K
with_key R k [] = k ∷ []
with_key R k (m ∷ ms) = placed (R k m) k m ms (with_key R k ms)

-- the keys of the first list at their places in the second
abbrev pub with_keys : {K : Type 0} → (K → K → Ordering) → List K → List K → List K
with_keys R [] ms = ms
with_keys R (k ∷ ks) ms = with_key R k (with_keys R ks ms)

-- the second list without the keys of the first
abbrev pub without_keys : {K : Type 0} → (K → K → Ordering) → List K → List K → List K
without_keys R ks ms = filter (λ m. not (is_among R m ks)) ms

-- the keys of a list in order, without repeats
abbrev pub in_order : {K : Type 0} → (K → K → Ordering) → List K → List K
in_order R ks = with_keys R ks []

-- whether each key is below the next, after a first one and in a list
abbrev pub rises_from : {K : Type 0} → (K → K → Ordering) → K → List K → Bool
rises_from R k [] = true
rises_from R k (m ∷ ms) = is_lt (R k m) && rises_from R m ms

abbrev pub is_in_order : {K : Type 0} → (K → K → Ordering) → List K → Bool
is_in_order R [] = true
is_in_order R (k ∷ ks) = rises_from R k ks

abbrev pub IsInOrder : {K : Type 0} → (K → K → Ordering) → List K → Type 0
IsInOrder R ks = IsTrue (is_in_order R ks)
