-- What is appended for each item of a list, one item further, and at the list's end.
use Rattle.std.proofs.Common.{◌≡◌, ℕ, ◌+◌, ◌<◌, ◌≤◌, List, [], ◌∷◌, ◌++◌, length, take, get_or, map, flat_map, sym, ap, ◌∙◌, append_assoc, append-nil}
use Rattle.std.proofs.lemmas.List.{take_more, take_all, map-append}
use Rattle.std.proofs.lemmas.Grind.{flat_map-append}

module _ {X : Type 0} where
  taken : (xs : List X) (i : ℕ) (x : X) → x ≡ get_or xs i x → i < length xs → take (i + 1) xs ≡ take i xs ++ x ∷ []
  taken xs i x e within = take_more xs i x within ∙ ap (λ y. take i xs ++ y ∷ []) (sym e)

  module _ {Y : Type 0} where
    flat_taken : (f : X → List Y) (xs : List X) (i : ℕ) (x : X) → x ≡ get_or xs i x → i < length xs → flat_map f (take (i + 1) xs) ≡ flat_map f (take i xs) ++ f x
    flat_taken f xs i x e within =
        ap (flat_map f) (taken xs i x e within) ∙ flat_map-append f (take i xs) (x ∷ []) ∙ ap (λ r. flat_map f (take i xs) ++ r) (append-nil (f x))

    pub flat_more : (f : X → List Y) (old before after : List Y) (xs : List X) (i : ℕ) (x : X) → x ≡ get_or xs i x → i < length xs
        → before ≡ old ++ flat_map f (take i xs) → after ≡ before ++ f x → after ≡ old ++ flat_map f (take (i + 1) xs)
    flat_more f old before after xs i x e within h step =
        step ∙ ap (λ r. r ++ f x) h ∙ append_assoc old (flat_map f (take i xs)) (f x) ∙ ap (λ r. old ++ r) (sym (flat_taken f xs i x e within))

    pub flat_all : (f : X → List Y) (old now : List Y) (xs : List X) (i : ℕ) → length xs ≤ i → now ≡ old ++ flat_map f (take i xs) → now ≡ old ++ flat_map f xs
    flat_all f old now xs i past h = h ∙ ap (λ r. old ++ flat_map f r) (take_all i xs past)

    pub map_more : (f : X → Y) (old before after : List Y) (xs : List X) (i : ℕ) (x : X) → x ≡ get_or xs i x → i < length xs
        → before ≡ old ++ map f (take i xs) → after ≡ before ++ f x ∷ [] → after ≡ old ++ map f (take (i + 1) xs)
    map_more f old before after xs i x e within h step =
        step ∙ ap (λ r. r ++ f x ∷ []) h ∙ append_assoc old (map f (take i xs)) (f x ∷ [])
        ∙ ap (λ r. old ++ r) (sym (ap (map f) (taken xs i x e within) ∙ map-append f (take i xs) (x ∷ [])))

    pub map_all : (f : X → Y) (old now : List Y) (xs : List X) (i : ℕ) → length xs ≤ i → now ≡ old ++ map f (take i xs) → now ≡ old ++ map f xs
    map_all f old now xs i past h = h ∙ ap (λ r. old ++ map f r) (take_all i xs past)
