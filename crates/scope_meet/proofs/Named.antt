-- What several filters admit, against what they name.
use Rattle.std.proofs.Common.{◌≡◌, Bool, true, false, ◌||◌, List, [], ◌∷◌, refl, ap, ◌∙◌, flat_map}
use Rattle.std.specs.List.{list_any}
use Rattle.std.proofs.lemmas.List.Folds.{list_any-append}
use Rattle.std.specs.Ordering.{eq_by_cmp}
use Rattle.std.specs.declared.cmp.Ordering.{Ordering}
use Rattle.keyed_rows.specs.Sorted.{is_among}
use Rattle.scope_names.specs.declared.action.Action.{Action}
use Rattle.scope_filters.specs.declared.object.Object.{Object}
use Rattle.scope_filters.specs.declared.filter.Filter.{Filter}
use Rattle.scope_filters.specs.declared.filter.Filter.TheVariants as Fi
use Rattle.scope_filters.specs.Admits.{admits, any_admits}
use Rattle.scope_filters.specs.Contexts.{Context}
use Rattle.scope_meet.specs.FilterNames.{is_all}

or_true : (b : Bool) {c : Bool} → c ≡ true → (b || c) ≡ true
or_true true h = refl
or_true false h = h

all_admits : (a : Action) (m : Context) (f : Filter) (x : Object) → is_all f ≡ true → admits a m f x ≡ true
all_admits a m Fi.All x h = refl
all_admits a m _ x h = cc

either : (a b c d : Bool) → (a || b) ≡ true → (a ≡ true → c ≡ true) → (b ≡ true → d ≡ true) → (c || d) ≡ true
either true b c d h k l = ap (λ e. e || d) (k refl)
either false b c d h k l = or_true c (l h)

-- one of them admits each object
pub every_admitted : (a : Action) (m : Context) (fs : List Filter) (x : Object) → list_any is_all fs ≡ true → any_admits a m fs x ≡ true
every_admitted a m [] x h = cc
every_admitted a m (f ∷ fs) x h = either (is_all f) (list_any is_all fs) (admits a m f x) (any_admits a m fs x) h (all_admits a m f x) (every_admitted a m fs x)

left_false : (a b : Bool) → (a || b) ≡ false → a ≡ false
left_false true b h = cc
left_false false b h = refl

right_false : (a b : Bool) → (a || b) ≡ false → b ≡ false
right_false true b h = cc
right_false false b h = h

-- none does, and a name is among those that they name where one of them admits it
module _ {K : Type 0} (R : K → K → Ordering) (a : Action) (m : Context) (object_of : K → Object) (named : Filter → List K)
    (law : (f : Filter) (x : K) → is_all f ≡ false → is_among R x (named f) ≡ admits a m f (object_of x)) where
  pub these_admitted : (fs : List Filter) (x : K) → list_any is_all fs ≡ false → is_among R x (flat_map named fs) ≡ any_admits a m fs (object_of x)
  these_admitted [] x h = refl
  these_admitted (f ∷ fs) x h =
      list_any-append (eq_by_cmp R x) (named f) (flat_map named fs)
      ∙ ap (λ b. b || is_among R x (flat_map named fs)) (law f x (left_false (is_all f) (list_any is_all fs) h))
      ∙ ap (λ b. admits a m f (object_of x) || b) (these_admitted fs x (right_false (is_all f) (list_any is_all fs) h))
