-- Which filters a grant has under an action, told by what tests they pass.
use Rattle.std.specs.Prelude.{Bool, true, false, List, [], ◌∷◌, ◌⊎◌}
use Rattle.std.specs.Bool.{IsFalse}
use Rattle.std.specs.List.{list_any}
use Rattle.scope_names.specs.declared.action.Action.{Action}
use Rattle.scope_filters.specs.declared.filter.Filter.{Filter}
use Rattle.scope_filters.specs.declared.filter.Filter.TheVariants.{OwnerOf}
use Rattle.scope_filters.specs.Grants.{Rights, filters_at}

-- P holds of one of the elements
abbrev pub OneOf : {X : Type 0} → (X → Type 0) → List X → Type 0
OneOf P [] = ⊥
OneOf P (x ∷ xs) = P x ⊎ OneOf P xs

-- one of the filters under an action passes a test
abbrev pub passes : (Filter → Bool) → Rights → Action → Bool
passes p g a = list_any p (filters_at g a)

abbrev pub is_owner_of : Filter → Bool
is_owner_of (OwnerOf user) = true
is_owner_of _ = false

-- the grant has no `OwnerOf`, which comes of meets alone
abbrev pub HasNoOwnerOf : Rights → Type 0
HasNoOwnerOf g = (a : Action) → IsFalse (passes is_owner_of g a)
