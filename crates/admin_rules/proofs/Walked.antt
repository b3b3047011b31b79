-- Lists that are walked through: what is picked, and what is made of each item.
use Rattle.std.proofs.Common.{◌≡◌, ℕ, ◌+◌, ◌<◌, ◌≤◌, Bool, true, false, cond, List, [], ◌∷◌, ◌++◌, length, take, get_or, map, filter, sym, ap, ◌∙◌, append-nil}
use Rattle.std.proofs.lemmas.List.{take_more, take_all, map-append}
use Rattle.std.proofs.lemmas.List.Elements.{filter-append}

module _ {X : Type 0} (xs : List X) (i : ℕ) where
  pub picked_all : (p : X → Bool) (now : List X) → length xs ≤ i → now ≡ filter p (take i xs) → now ≡ filter p xs
  picked_all p now past h = h ∙ ap (filter p) (take_all i xs past)

  module _ (x : X) (at : x ≡ get_or xs i x) (within : i < length xs) where
    taken : take (i + 1) xs ≡ take i xs ++ x ∷ []
    taken = take_more xs i x within ∙ ap (λ y. take i xs ++ y ∷ []) (sym at)

    module _ (p : X → Bool) where
      picked : (before after : List X) (b : Bool) → p x ≡ b → after ≡ cond b (before ++ x ∷ []) before → after ≡ before ++ filter p (x ∷ [])
      picked before after true e step = step ∙ ap (λ b. before ++ cond b (x ∷ []) []) (sym e)
      picked before after false e step = step ∙ sym (append-nil before) ∙ ap (λ b. before ++ cond b (x ∷ []) []) (sym e)

      pub picked_more : (before after : List X) (b : Bool) → p x ≡ b → after ≡ cond b (before ++ x ∷ []) before → before ≡ filter p (take i xs) → after ≡ filter p (take (i + 1) xs)
      picked_more before after b test step h =
          picked before after b test step ∙ ap (λ r. r ++ filter p (x ∷ [])) h ∙ sym (ap (filter p) taken ∙ filter-append p (take i xs) (x ∷ []))

    pub made_more : {Y : Type 0} (f : X → Y) (before after : List Y) → after ≡ before ++ f x ∷ [] → before ≡ map f (take i xs) → after ≡ map f (take (i + 1) xs)
    made_more f before after step h = step ∙ ap (λ r. r ++ f x ∷ []) h ∙ sym (ap (map f) taken ∙ map-append f (take i xs) (x ∷ []))

  pub made_all : {Y : Type 0} (f : X → Y) (now : List Y) → length xs ≤ i → now ≡ map f (take i xs) → now ≡ map f xs
  made_all f now past h = h ∙ ap (map f) (take_all i xs past)
