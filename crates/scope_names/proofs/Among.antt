-- Membership in lists of actions.
use Rattle.std.proofs.Common.{◌≡◌, Bool, true, false, ◌||◌, ◌&&◌, List, [], ◌∷◌, ◌++◌, refl, sym, ap, ◌∙◌, ◌⊎◌, inl, inr}
use Rattle.std.specs.List.{list_all}
use Rattle.std.specs.Cmp.{eq_by_cmp_equiv}
use Rattle.std.specs.Ordering.{is_eq}
use Rattle.std.specs.declared.cmp.Ordering.{Ordering}
use Rattle.std.specs.declared.cmp.Ordering.TheVariants.{Less, Equal, Greater}
use Rattle.std.proofs.lemmas.List.Folds.{list_any-append}
use Rattle.scope_names.specs.declared.action.Action.{Action}
use Rattle.scope_names.specs.ActionOrder.{action_cmp, actions_exact, actions_total, same_action}
use Rattle.scope_names.specs.Coverage.{is_among}

pub or_cases : (a b : Bool) → (a || b) ≡ true → (a ≡ true) ⊎ (b ≡ true)
or_cases true b h = inl refl
or_cases false b h = inr h

pub or_left : (a b : Bool) → a ≡ true → (a || b) ≡ true
or_left true b h = refl
or_left false b h = cc

pub or_right : (a b : Bool) → b ≡ true → (a || b) ≡ true
or_right true b h = refl
or_right false b h = h

is_equal : (o : Ordering) → is_eq o ≡ true → o ≡ Equal
is_equal Less h = cc
is_equal Equal h = refl
is_equal Greater h = cc

pub same_exact : (a b : Action) → same_action a b ≡ true → a ≡ b
same_exact a b h = actions_exact a b (is_equal (action_cmp a b) h)

pub same_self : (a : Action) → same_action a a ≡ true
same_self a = (eq_by_cmp_equiv actions_total).refl a

pub same_back : (a b : Action) → same_action a b ≡ same_action b a
same_back a b = (eq_by_cmp_equiv actions_total).symm a b

pub among_append : (b : Action) (xs ys : List Action) → is_among b (xs ++ ys) ≡ true → (is_among b xs ≡ true) ⊎ (is_among b ys ≡ true)
among_append b xs ys h = or_cases (is_among b xs) (is_among b ys) (sym (list_any-append (same_action b) xs ys) ∙ h)

pub among_left : (b : Action) (xs ys : List Action) → is_among b xs ≡ true → is_among b (xs ++ ys) ≡ true
among_left b xs ys h = list_any-append (same_action b) xs ys ∙ or_left (is_among b xs) (is_among b ys) h

pub among_right : (b : Action) (xs ys : List Action) → is_among b ys ≡ true → is_among b (xs ++ ys) ≡ true
among_right b xs ys h = list_any-append (same_action b) xs ys ∙ or_right (is_among b xs) (is_among b ys) h

-- the last of a list is in it
pub among_last : (b : Action) (xs : List Action) → is_among b (xs ++ b ∷ []) ≡ true
among_last b xs = among_right b xs (b ∷ []) (or_left (same_action b b) false (same_self b))

-- a list of one
pub among_one : (a b : Action) → is_among b (a ∷ []) ≡ true → a ≡ b
among_one a b h = elim (or_cases (same_action b a) false h) as (λ _. a ≡ b) [ inl e ↦ sym (same_exact b a e) | inr k ↦ absurd (cc) ]

and_left : (a b : Bool) → (a && b) ≡ true → a ≡ true
and_left true b h = refl
and_left false b h = cc

and_right : (a b : Bool) → (a && b) ≡ true → b ≡ true
and_right true b h = h
and_right false b h = cc

-- what a test says of all, it says of one
pub of_all : (p : Action → Bool) (xs : List Action) (b : Action) → list_all p xs ≡ true → is_among b xs ≡ true → p b ≡ true
of_all p [] b h k = cc
of_all p (x ∷ xs) b h k = elim (or_cases (same_action b x) (is_among b xs) k) as (λ _. p b ≡ true) [
  | inl e ↦ ap p (same_exact b x e) ∙ and_left (p x) _ h
  | inr k ↦ of_all p xs b (and_right (p x) _ h) k
]
