-- What is appended for pairs of filters, of which one at most is a group.
use Rattle.std.proofs.Common.{◌≡◌, ℕ, ◌+◌, ◌<◌, ◌≤◌, Bool, true, false, ◌&&◌, ◌||◌, cond, if◌then◌else◌, List, [], ◌∷◌, ◌++◌, length, get_or, take, Option, Some, None, MatchOption, refl, sym, ap, ◌∙◌, ◌⊎◌, inl, inr, arith}
use Rattle.std.specs.List.{list_any}
use Rattle.std.proofs.lemmas.List.{take_all, take_more}
use Rattle.std.proofs.lemmas.List.Folds.{list_any-append, list_any_at}
use Rattle.hub_kit.specs.declared.names.ServerKey.{ServerKey}
use Rattle.scope_names.specs.declared.action.Action.{Action}
use Rattle.scope_expand.proofs.Ones.{not_true, clash}
use Rattle.scope_filters.specs.declared.object.Object.{Object}
use Rattle.scope_filters.specs.declared.filter.Filter.{Filter}
use Rattle.scope_filters.specs.declared.filter.Filter.TheVariants as Fi
use Rattle.scope_filters.specs.Admits.{reads_names, admits, any_admits}
use Rattle.scope_filters.specs.Contexts.{Context, same}
use Rattle.scope_meet.specs.Meets.{within, is_group}
use Rattle.scope_meet.proofs.Exact.{common, are_groups, within_sound, both, common_sound, exactly}
use Rattle.scope_meet.proofs.NamesMet.{any_and, any_alike}

-- ---- one pair

or_false : (b : Bool) → (b || false) ≡ b
or_false true = refl
or_false false = refl

abbrev listed : Option Filter → List Filter
listed None = []
listed (Some k) = k ∷ []

module _ (a : Action) (m : Context) (f g : Filter) where
  -- the filter admits what both do
  abbrev pub IsMeet : Option Filter → Type 0
  IsMeet o = MatchOption o ((x : Object) → (admits a m f x && admits a m g x) ≡ false) (λ k. (x : Object) → admits a m k x ≡ (admits a m f x && admits a m g x))

  pub first_meets : within a m f g ≡ true → IsMeet (Some f)
  first_meets w x = exactly (admits a m f x) (admits a m f x) (admits a m g x) (λ h. (h, within_sound a m f g x w h)) (λ h k. h)

  pub second_meets : within a m g f ≡ true → IsMeet (Some g)
  second_meets w x = exactly (admits a m g x) (admits a m f x) (admits a m g x) (λ h. (within_sound a m g f x w h, h)) (λ h k. k)

  common_meets : within a m f g ≡ false → within a m g f ≡ false → are_groups f g ≡ false → (x : Object) → any_admits a m (common a f g) x ≡ (admits a m f x && admits a m g x)
  common_meets v w e x = exactly (any_admits a m (common a f g) x) (admits a m f x) (admits a m g x) (common_sound a m f g x) (λ h k.
      elim (both a m f g x h k) as (λ _. any_admits a m (common a f g) x ≡ true) [
        | inl o ↦ absurd (clash (within a m f g) o v)
        | inr (inl o) ↦ absurd (clash (within a m g f) o w)
        | inr (inr (inl o)) ↦ o
        | inr (inr (inr o)) ↦ absurd (clash (are_groups f g) o e)
      ])

  listed_meets : (o : Option Filter) → listed o ≡ common a f g → within a m f g ≡ false → within a m g f ≡ false → are_groups f g ≡ false → IsMeet o
  listed_meets None is v w e = λ x. sym (ap (λ l. any_admits a m l x) is ∙ common_meets v w e x)
  listed_meets (Some k) is v w e = λ x. sym (or_false (admits a m k x)) ∙ ap (λ l. any_admits a m l x) is ∙ common_meets v w e x

-- what two servers have in common is listed
listed_owner : (b : Bool) (k : ServerKey) (o : Option Filter) → o ≡ (if b then Some (Fi.OwnerOf k.user) else None) → listed o ≡ (if b then Fi.OwnerOf k.user ∷ [] else [])
listed_owner true k o is = ap listed is
listed_owner false k o is = ap listed is

common_listed : (a : Action) (f g : Filter) (o : Option Filter)
    → ((k l : ServerKey) → f ≡ Fi.Server k → g ≡ Fi.Server l → o ≡ (if reads_names a && same k.user l.user then Some (Fi.OwnerOf k.user) else None))
    → (((k l : ServerKey) → f ≡ Fi.Server k → g ≡ Fi.Server l → ⊥) → o ≡ None)
    → listed o ≡ common a f g
common_listed a (Fi.Server k) (Fi.Server l) o servers others = listed_owner (reads_names a && same k.user l.user) k o (servers k l refl refl)
common_listed a _ _ o servers others = ap listed (others (λ k l p q. cc))

pub owner_meets : (a : Action) (m : Context) (f g : Filter) (o : Option Filter)
    → ((k l : ServerKey) → f ≡ Fi.Server k → g ≡ Fi.Server l → o ≡ (if reads_names a && same k.user l.user then Some (Fi.OwnerOf k.user) else None))
    → (((k l : ServerKey) → f ≡ Fi.Server k → g ≡ Fi.Server l → ⊥) → o ≡ None)
    → within a m f g ≡ false → within a m g f ≡ false → are_groups f g ≡ false → IsMeet a m f g o
owner_meets a m f g o servers others v w e = listed_meets a m f g o (common_listed a f g o servers others) v w e

-- ---- the filters of a list, one by one

or_again : (a b c : Bool) → ((a || b) || c) ≡ (a || (b || (c || false)))
or_again true b c = refl
or_again false true c = refl
or_again false false true = refl
or_again false false false = refl

module _ (a : Action) (m : Context) (q : Object → Filter → Bool) where
  -- the list admits what it did, and what one of the filters taken so far is good for
  abbrev pub Grown : List Filter → List Filter → List Filter → Type 0
  Grown old taken new = (x : Object) → any_admits a m new x ≡ (any_admits a m old x || list_any (q x) taken)

  pub grown_none : (old : List Filter) → Grown old [] old
  grown_none old x = sym (or_false (any_admits a m old x))

  pub grown_more : (old met new fs : List Filter) (i : ℕ) (f : Filter) → i < length fs → f ≡ get_or fs i f → Grown old (take i fs) met
      → ((x : Object) → any_admits a m new x ≡ (any_admits a m met x || q x f)) → Grown old (take (i + 1) fs) new
  grown_more old met new fs i f within is so_far one x =
      one x ∙ ap (λ b. b || q x f) (so_far x) ∙ or_again (any_admits a m old x) (list_any (q x) (take i fs)) (q x f)
      ∙ ap (λ b. any_admits a m old x || b) (sym (list_any-append (q x) (take i fs) (f ∷ [])))
      ∙ ap (λ l. any_admits a m old x || list_any (q x) l) (ap (λ y. take i fs ++ y ∷ []) is ∙ sym (take_more fs i f within))

  pub grown_all : (old new fs : List Filter) (i : ℕ) → length fs ≤ i → Grown old (take i fs) new → (x : Object) → any_admits a m new x ≡ (any_admits a m old x || list_any (q x) fs)
  grown_all old new fs i past so_far x = so_far x ∙ ap (λ l. any_admits a m old x || list_any (q x) l) (take_all i fs past)

-- ---- none of the pairs has two groups

item_false : (fs : List Filter) (i : ℕ) (f : Filter) → i < length fs → f ≡ get_or fs i f → list_any is_group fs ≡ false → is_group f ≡ false
item_false fs i f within is none = not_true (is_group f) (λ h. clash (list_any is_group fs) (list_any_at is_group fs i f within (ap is_group (sym is) ∙ h)) none)

pub pair_of : (b : Bool) (fs : List Filter) (i : ℕ) (f : Filter) → i < length fs → f ≡ get_or fs i f → (b && list_any is_group fs) ≡ false → (b && is_group f) ≡ false
pair_of true fs i f within is none = item_false fs i f within is none
pair_of false fs i f within is none = refl

pub pair_with : (b : Bool) (fs : List Filter) (i : ℕ) (f : Filter) → i < length fs → f ≡ get_or fs i f → (list_any is_group fs && b) ≡ false → (is_group f && b) ≡ false
pair_with true fs i f within is none = by (is_group f) (item_false fs i f within is (left_of (list_any is_group fs) none))
  where
    left_of : (c : Bool) → (c && true) ≡ false → c ≡ false
    left_of true h = cc
    left_of false h = refl

    by : (c : Bool) → c ≡ false → (c && true) ≡ false
    by true h = cc
    by false h = refl
pair_with false fs i f within is none = and_false (is_group f)
  where
    and_false : (c : Bool) → (c && false) ≡ false
    and_false true = refl
    and_false false = refl

-- ---- what both of two lists admit

pub both_of : (b : Bool) (p : Filter → Bool) (fs : List Filter) → list_any (λ f. b && p f) fs ≡ (b && list_any p fs)
both_of true p fs = refl
both_of false p [] = refl
both_of false p (f ∷ fs) = both_of false p fs
