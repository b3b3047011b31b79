-- Walks over lists: what the rest of the items still gives, at an item and behind the last.
use Rattle.std.proofs.Common.{◌≡◌, ℕ, ◌+◌, ◌<◌, ◌≤◌, Bool, true, false, cond, List, [], ◌∷◌, ◌++◌, length, map, get_or, drop, append_assoc, sym, ap, ◌∙◌}
use Rattle.std.specs.List.{filter, flat_map}
use Rattle.std.proofs.lemmas.List.{append-nil, drop_all, drop_more}

from_item : {X : Type 0} (xs : List X) (i : ℕ) (x : X) → i < length xs → x ≡ get_or xs i x → drop i xs ≡ x ∷ drop (i + 1) xs
from_item xs i x within is = drop_more xs i x within ∙ ap (λ y. y ∷ drop (i + 1) xs) (sym is)

-- what each item gives
module _ {X Y : Type 0} (f : X → List Y) (xs : List X) (i : ℕ) (before all : List Y) (so_far : before ++ flat_map f (drop i xs) ≡ all) where
  pub gathered : (x : X) → i < length xs → x ≡ get_or xs i x → (before ++ f x) ++ flat_map f (drop (i + 1) xs) ≡ all
  gathered x within is = append_assoc before (f x) (flat_map f (drop (i + 1) xs)) ∙ sym (ap (λ ys. before ++ flat_map f ys) (from_item xs i x within is)) ∙ so_far

  pub all_gathered : length xs ≤ i → before ≡ all
  all_gathered past = sym (ap (λ ys. before ++ flat_map f ys) (drop_all i xs past) ∙ append-nil before) ∙ so_far

-- the items that pass a test, each as something else
module _ {X Y : Type 0} (f : X → Y) (p : X → Bool) (xs : List X) (i : ℕ) (before all : List Y) (so_far : before ++ map f (filter p (drop i xs)) ≡ all) where
  module _ (x : X) (within : i < length xs) (is : x ≡ get_or xs i x) where
    judged : (b : Bool) → p x ≡ b → before ++ map f (cond b (x ∷ filter p (drop (i + 1) xs)) (filter p (drop (i + 1) xs))) ≡ all
    judged b t = ap (λ b. before ++ map f (cond b (x ∷ filter p (drop (i + 1) xs)) (filter p (drop (i + 1) xs)))) (sym t) ∙ sym (ap (λ ys. before ++ map f (filter p ys)) (from_item xs i x within is)) ∙ so_far

    pub passed_over : p x ≡ false → before ++ map f (filter p (drop (i + 1) xs)) ≡ all
    passed_over t = judged false t

    pub picked : p x ≡ true → (before ++ f x ∷ []) ++ map f (filter p (drop (i + 1) xs)) ≡ all
    picked t = append_assoc before (f x ∷ []) (map f (filter p (drop (i + 1) xs))) ∙ judged true t

  pub all_judged : length xs ≤ i → before ≡ all
  all_judged past = sym (ap (λ ys. before ++ map f (filter p ys)) (drop_all i xs past) ∙ append-nil before) ∙ so_far

-- the items that pass a test
module _ {X : Type 0} (p : X → Bool) (xs : List X) (i : ℕ) (before all : List X) (so_far : before ++ filter p (drop i xs) ≡ all) where
  module _ (x : X) (within : i < length xs) (is : x ≡ get_or xs i x) where
    sifted : (b : Bool) → p x ≡ b → before ++ cond b (x ∷ filter p (drop (i + 1) xs)) (filter p (drop (i + 1) xs)) ≡ all
    sifted b t = ap (λ b. before ++ cond b (x ∷ filter p (drop (i + 1) xs)) (filter p (drop (i + 1) xs))) (sym t) ∙ sym (ap (λ ys. before ++ filter p ys) (from_item xs i x within is)) ∙ so_far

    pub dropped : p x ≡ false → before ++ filter p (drop (i + 1) xs) ≡ all
    dropped t = sifted false t

    pub kept : p x ≡ true → (before ++ x ∷ []) ++ filter p (drop (i + 1) xs) ≡ all
    kept t = append_assoc before (x ∷ []) (filter p (drop (i + 1) xs)) ∙ sifted true t

  pub all_sifted : length xs ≤ i → before ≡ all
  all_sifted past = sym (ap (λ ys. before ++ filter p ys) (drop_all i xs past) ∙ append-nil before) ∙ so_far
