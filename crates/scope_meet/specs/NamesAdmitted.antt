-- A name is among those that a filter names exactly where the filter admits its object. These are the proofs of
-- the laws of `Named`, and stand here since a source cites only what stands in specs/.
use Rattle.std.proofs.Common.{refl, ap, ◌∙◌, sym}
use Rattle.std.specs.Prelude.{◌≡◌, ℕ, Bool, true, false, ◌&&◌, ◌||◌, List, [], ◌∷◌, if◌then◌else◌}
use Rattle.std.specs.List.{list_any}
use Rattle.std.specs.Cmp.Lexicographic.{texts_ties, nat_list_eq_equiv}
use Rattle.hub_kit.specs.KeyOrder.{name_cmp}
use Rattle.keyed_rows.specs.Sorted.{is_among}
use Rattle.scope_names.specs.declared.action.Action.{Action}
use Rattle.scope_filters.specs.declared.object.Object.TheVariants as Ob
use Rattle.scope_filters.specs.declared.filter.Filter.{Filter}
use Rattle.scope_filters.specs.declared.filter.Filter.TheVariants as Fi
use Rattle.scope_filters.specs.Admits.{reads_names, admits}
use Rattle.scope_filters.specs.Contexts.{Context, same}
use Rattle.scope_meet.specs.FilterNames.{is_all, users_named, groups_named, services_named}

among_same : (x : List ℕ) (names : List (List ℕ)) → is_among name_cmp x names ≡ list_any (same x) names
among_same x names = ap (λ p. list_any p names) (λ i name. sym (texts_ties x name) i)

or_false : (b : Bool) → (b || false) ≡ b
or_false true = refl
or_false false = refl

-- a single name
one : (x u : List ℕ) → is_among name_cmp x (u ∷ []) ≡ same u x
one x u = among_same x (u ∷ []) ∙ or_false (same x u) ∙ nat_list_eq_equiv.symm x u

one_where : (b : Bool) (x u : List ℕ) → is_among name_cmp x (if b then u ∷ [] else []) ≡ (b && same u x)
one_where true x u = one x u
one_where false x u = refl

pub users_are_named : (a : Action) (m : Context) (f : Filter) (x : List ℕ) → is_all f ≡ false
    → is_among name_cmp x (users_named a m f) ≡ admits a m f (Ob.User x)
users_are_named a m Fi.All x h = cc
users_are_named a m (Fi.User u) x h = one x u
users_are_named a m (Fi.Group g) x h = among_same x (m g)
users_are_named a m (Fi.Server k) x h = one_where (reads_names a) x k.user
users_are_named a m (Fi.Service v) x h = refl
users_are_named a m (Fi.OwnerOf u) x h = one x u

pub groups_are_named : (a : Action) (m : Context) (f : Filter) (x : List ℕ) → is_all f ≡ false
    → is_among name_cmp x (groups_named a m f) ≡ admits a m f (Ob.Group x)
groups_are_named a m Fi.All x h = cc
groups_are_named a m (Fi.User u) x h = refl
groups_are_named a m (Fi.Group g) x h = one x g
groups_are_named a m (Fi.Server k) x h = refl
groups_are_named a m (Fi.Service v) x h = refl
groups_are_named a m (Fi.OwnerOf u) x h = refl

pub services_are_named : (a : Action) (m : Context) (f : Filter) (x : List ℕ) → is_all f ≡ false
    → is_among name_cmp x (services_named a m f) ≡ admits a m f (Ob.Service x)
services_are_named a m Fi.All x h = cc
services_are_named a m (Fi.User u) x h = refl
services_are_named a m (Fi.Group g) x h = refl
services_are_named a m (Fi.Server k) x h = refl
services_are_named a m (Fi.Service v) x h = one x v
services_are_named a m (Fi.OwnerOf u) x h = refl
