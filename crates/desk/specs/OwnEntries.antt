-- Own entries, each with its place in a history.
use Rattle.std.specs.Prelude.{◌≡◌, ◌⊎◌, ℕ, ◌+◌, ◌≤◌, List, [], ◌∷◌, length, drop, ltb, if◌then◌else◌}
use mathlib.Core.Option.{some}
use mathlib.Core.List.{IsPrefix}
use lib.ListN.{get_elem?}

module _ {E : Type 0} where
  -- the entries, from the place n on
  abbrev pub placed : ℕ → List E → List (ℕ × E)
  placed n [] = []
  placed n (x ∷ xs) = (n, x) ∷ placed (n + 1) xs

  -- what ys has past xs, which it begins with, each entry with its place in ys
  abbrev pub added : List E → List E → List (ℕ × E)
  added xs ys = placed (length xs) (drop (length xs) ys)

  -- each pair stands in the list at its place
  abbrev pub StandIn : List E → List (ℕ × E) → Type 0
  StandIn h [] = Unit {0}
  StandIn h (p ∷ ps) = (get_elem? h p.0 ≡ some p.1) × StandIn h ps

  -- one of the pairs has this place
  abbrev pub Owns : ℕ → List (ℕ × E) → Type 0
  Owns n [] = ⊥
  Owns n (p ∷ ps) = (p.0 ≡ n) ⊎ Owns n ps

  -- the places rise, and each is at least n
  abbrev pub RisesFrom : ℕ → List (ℕ × E) → Type 0
  RisesFrom n [] = Unit {0}
  RisesFrom n (p ∷ ps) = (n ≤ p.0) × RisesFrom (p.0 + 1) ps

  -- xs, with p before the first pair of a greater place
  abbrev pub inserted : ℕ × E → List (ℕ × E) → List (ℕ × E)
  inserted p [] = p ∷ []
  inserted p (q ∷ qs) = if ltb p.0 q.0 then p ∷ q ∷ qs else q ∷ inserted p qs

  -- both, in the order of their places
  abbrev pub merged : List (ℕ × E) → List (ℕ × E) → List (ℕ × E)
  merged ps [] = ps
  merged ps (q ∷ qs) = inserted q (merged ps qs)

  -- no place is in both
  abbrev pub Apart : List (ℕ × E) → List (ℕ × E) → Type 0
  Apart ps qs = (n : ℕ) → Owns n ps → Owns n qs → ⊥

  -- the first one where they are of one length
  abbrev pub longer : List E → List E → List E
  longer xs ys = if ltb (length xs) (length ys) then ys else xs

  -- one begins with the other
  abbrev pub Agree : List E → List E → Type 0
  Agree xs ys = IsPrefix xs ys ⊎ IsPrefix ys xs
