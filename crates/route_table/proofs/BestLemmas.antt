-- The best route of a path and of a shorter one.
use Rattle.std.proofs.Common.{◌≡◌, ℕ, List, [], ◌∷◌, ◌++◌, length, Option, Some, None, refl, sym, ap, ◌∙◌, arith, ◌⊎◌, inl, inr, append_assoc, length-append}
use Rattle.std.proofs.lemmas.List.{append-nil}
use Rattle.route_table.specs.Table.{listed}
use Rattle.route_table.specs.Rows.{RowBox, rows_of}
use Rattle.route_table.specs.Search.{IsListedAt, IsBestPlace}

first_nil : {A : Type 0} (k rest : List A) → [] ≡ k ++ rest → k ≡ []
first_nil [] rest e = refl
first_nil (x ∷ k) rest e = cc

-- a front of a list with one more element at its end
pub fronts : {A : Type 0} (s k rest : List A) (l : A) → s ++ l ∷ [] ≡ k ++ rest → (k ≡ s ++ l ∷ []) ⊎ ((rest' : List A) × (s ≡ k ++ rest'))
fronts [] [] rest l e = inr ([], refl)
fronts [] (x ∷ k) rest l e =
    let none : [] ≡ k ++ rest = cc in
    let first : l ≡ x = cc in
    inl (rw (first_nil k rest none, first) refl)
fronts (y ∷ s) [] rest l e = inr (y ∷ s, refl)
fronts {A} (y ∷ s) (x ∷ k) rest l e =
    let tails : s ++ l ∷ [] ≡ k ++ rest = cc in
    let heads : y ≡ x = cc in
    elim (fronts s k rest l tails) as (λ _. (x ∷ k ≡ y ∷ s ++ l ∷ []) ⊎ ((rest' : List A) × (y ∷ s ≡ x ∷ k ++ rest'))) [
      | inl whole ↦ inl (λ i. sym heads i ∷ whole i)
      | inr part ↦ inr (part.0, λ i. heads i ∷ part.1 i)
    ]

module _ (rows : List RowBox) where
  pub best_found : (s : List (List ℕ)) (at : ℕ) → IsListedAt rows s at → IsBestPlace rows s (Some at)
  best_found s at h = (s, [], sym (append-nil s), h, λ k' rest' e lt. absurd (omega (arith, ap length e ∙ length-append k' rest', lt)))

  pub best_none : listed (rows_of rows) [] ≡ None → IsBestPlace rows [] None
  best_none h k rest e = ap (listed (rows_of rows)) (first_nil k rest e) ∙ h

  pub best_shorter : (s : List (List ℕ)) (l : List ℕ) (r : Option ℕ) → listed (rows_of rows) (s ++ l ∷ []) ≡ None → IsBestPlace rows s r → IsBestPlace rows (s ++ l ∷ []) r
  best_shorter s l None h best = λ k rest e. elim (fronts s k rest l e) as (λ _. listed (rows_of rows) k ≡ None) [
    | inl whole ↦ ap (listed (rows_of rows)) whole ∙ h
    | inr part ↦ best k part.0 part.1
  ]
  best_shorter s l (Some r) h best = (
    best.0,
    best.1 ++ l ∷ [],
    ap (λ xs. xs ++ l ∷ []) best.2 ∙ append_assoc best.0 best.1 (l ∷ []),
    best.3,
    λ k' rest' e lt. elim (fronts s k' rest' l e) as (λ _. listed (rows_of rows) k' ≡ None) [
      | inl whole ↦ ap (listed (rows_of rows)) whole ∙ h
      | inr part ↦ best.4 k' part.0 part.1 lt
    ],
  )
