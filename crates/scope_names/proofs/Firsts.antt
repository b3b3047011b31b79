-- The first item of a list of which something holds: at an item, and behind the last.
use Rattle.std.proofs.Common.{◌≡◌, ℕ, ◌<◌, ◌≤◌, List, length, get_or, arith, inl, inr, refl, sym, subst}
use Rattle.std.specs.Prelude.{Option}
use Rattle.std.specs.List.{slice_get}
use Rattle.std.specs.Option.{IsSomeAnd}
use Rattle.std.proofs.lemmas.Option.{slice_get_cases, slice_get_past, slice_get_read}

module _ {X : Type 0} (P : ℕ → X → Type 0) (xs : List X) (i : ℕ) where
  module _ (x : X) (within : i < length xs) (is : x ≡ get_or xs i x) where
    pub holds_here : P i x → IsSomeAnd (slice_get xs i) (P i)
    holds_here p = subst (λ (o : Option X). IsSomeAnd o (P i)) (sym (slice_get_read xs (length xs) i x refl within is)) p

    pub fails_here : ¬ (P i x) → ¬ (IsSomeAnd (slice_get xs i) (P i))
    fails_here fails u = fails (subst (λ (o : Option X). IsSomeAnd o (P i)) (slice_get_read xs (length xs) i x refl within is) u)

  pub never : ((j : ℕ) → j < i → ¬ (IsSomeAnd (slice_get xs j) (P j))) → length xs ≤ i → (j : ℕ) → ¬ (IsSomeAnd (slice_get xs j) (P j))
  never so_far past j u = elim (slice_get_cases xs j).1 as (λ _. ⊥) [
    | inl within ↦ so_far j (let l : j < length xs = within.1 in omega arith) u
    | inr behind ↦ subst (λ (o : Option X). IsSomeAnd o (P j)) (slice_get_past xs j behind.0) u
  ]
