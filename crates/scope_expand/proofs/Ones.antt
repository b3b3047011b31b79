-- Tests, and one of the elements of a list.
use Rattle.std.proofs.Common.{◌≡◌, Bool, true, false, ◌&&◌, ◌||◌, List, [], ◌∷◌, ◌++◌, refl, ◌⊎◌, inl, inr}
use Rattle.std.specs.List.{flat_map}
use Rattle.scope_expand.specs.Passes.{OneOf}

pub or_cases : (a b : Bool) → (a || b) ≡ true → (a ≡ true) ⊎ (b ≡ true)
or_cases true b h = inl refl
or_cases false b h = inr h

pub or_left : (a b : Bool) → a ≡ true → (a || b) ≡ true
or_left true b h = refl
or_left false b h = cc

pub or_right : (a b : Bool) → b ≡ true → (a || b) ≡ true
or_right true b h = refl
or_right false b h = h

pub left : (a b : Bool) → (a && b) ≡ true → a ≡ true
left true b h = refl
left false b h = cc

pub right : (a b : Bool) → (a && b) ≡ true → b ≡ true
right true b h = h
right false b h = cc

pub both_true : (a b : Bool) → a ≡ true → b ≡ true → (a && b) ≡ true
both_true true b h k = k
both_true false b h k = cc

pub both_false : (a b : Bool) → a ≡ false → b ≡ false → (a || b) ≡ false
both_false true b h k = cc
both_false false b h k = k

pub not_true : (b : Bool) → (b ≡ true → ⊥) → b ≡ false
not_true true h = absurd (h refl)
not_true false h = refl

pub clash : (b : Bool) → b ≡ true → b ≡ false → ⊥
clash b h k = cc

-- ---- one of the elements

pub one_left : {X : Type 0} (P : X → Type 0) (xs ys : List X) → OneOf P xs → OneOf P (xs ++ ys)
one_left P [] ys h = absurd h
one_left P (x ∷ xs) ys (inl h) = inl h
one_left P (x ∷ xs) ys (inr h) = inr (one_left P xs ys h)

pub one_right : {X : Type 0} (P : X → Type 0) (xs ys : List X) → OneOf P ys → OneOf P (xs ++ ys)
one_right P [] ys h = h
one_right P (x ∷ xs) ys h = inr (one_right P xs ys h)

pub one_cases : {X : Type 0} (P : X → Type 0) (xs ys : List X) → OneOf P (xs ++ ys) → OneOf P xs ⊎ OneOf P ys
one_cases P [] ys h = inr h
one_cases P (x ∷ xs) ys (inl h) = inl (inl h)
one_cases P (x ∷ xs) ys (inr h) = elim (one_cases P xs ys h) as (λ _. OneOf P (x ∷ xs) ⊎ OneOf P ys) [
  | inl k ↦ inl (inr k)
  | inr k ↦ inr k
]

pub one_alone : {X : Type 0} (P : X → Type 0) (y : X) → OneOf P (y ∷ []) → P y
one_alone P y (inl h) = h
one_alone P y (inr h) = absurd h

pub one_weaker : {X : Type 0} (P Q : X → Type 0) → ((x : X) → P x → Q x) → (xs : List X) → OneOf P xs → OneOf Q xs
one_weaker P Q w [] h = absurd h
one_weaker P Q w (x ∷ xs) (inl h) = inl (w x h)
one_weaker P Q w (x ∷ xs) (inr h) = inr (one_weaker P Q w xs h)

-- where none of a list's elements has one, their lists together have none
pub none_flat : {X Y : Type 0} (P : Y → Type 0) (f : X → List Y) → ((x : X) → OneOf P (f x) → ⊥) → (xs : List X) → OneOf P (flat_map f xs) → ⊥
none_flat P f none [] h = h
none_flat P f none (x ∷ xs) h = elim (one_cases P (f x) (flat_map f xs) h) as (λ _. ⊥) [
  | inl k ↦ none x k
  | inr k ↦ none_flat P f none xs k
]
