-- The grant of what plain scopes cover.
use Rattle.std.proofs.Common.{◌≡◌, Bool, true, false, ◌&&◌, ◌||◌, List, [], ◌∷◌, ◌++◌, Option, Some, None, Result, Ok, Err, IfOk, OnOk, refl, sym, ap, subst, ◌∙◌, ◌⊎◌, inl, inr, ◌↔◌, IsTrue}
use Rattle.std.specs.List.{flat_map}
use Rattle.std.proofs.lemmas.List.{flat_map_more}
use Rattle.std.specs.FinMap.{empty}
use Rattle.scope_names.specs.declared.action.Action.{Action}
use Rattle.scope_names.specs.declared.custom.CustomRow.{CustomRow}
use Rattle.scope_names.specs.Coverage.{IsCoverage, is_among}
use Rattle.scope_filters.specs.declared.filter.Filter.{Filter}
use Rattle.scope_filters.specs.declared.holder.Holder.{Holder}
use Rattle.scope_filters.specs.declared.holder.Owner.{Owner}
use Rattle.scope_filters.specs.declared.holder.Owner.TheVariants as Own
use Rattle.scope_filters.specs.declared.object.Object.{Object}
use Rattle.scope_filters.specs.declared.scope.RawFilter.{RawFilter}
use Rattle.scope_filters.specs.declared.scope.RawFilter.TheVariants as Raw
use Rattle.scope_filters.specs.declared.scope.RawScope.{RawScope}
use Rattle.scope_filters.specs.declared.scope.RawScope.TheVariants.{Plain, SelfScope, Inherit}
use Rattle.scope_filters.specs.Admits.{admits}
use Rattle.scope_filters.specs.Contexts.{Context}
use Rattle.scope_filters.specs.Grants.{Rights, grant_admits}
use Rattle.hub_kit.specs.declared.names.ServerKey.{ServerKey}
use Rattle.scope_expand.specs.declared.PlainScope.{PlainScope}
use Rattle.scope_expand.specs.Meaning.{owning_user, owning_service, server_of_issue, filter_meant, under, profile, means, plain_scopes, IsMeant}
use Rattle.scope_expand.specs.Passes.{OneOf, passes, is_owner_of, HasNoOwnerOf}
use Rattle.scope_expand.specs.Covering.{IsCovering, GrantsCovered, CoversMore}
use Rattle.scope_expand.proofs.Ones.{or_cases, or_left, or_right, left, right, both_true, not_true, clash, one_left, one_right, one_cases, one_alone, one_weaker, none_flat}
use Rattle.scope_expand.proofs.Held.{none_passes}

-- ---- what is added

pub covers_nothing : (table : List CustomRow) (g : Rights) → CoversMore table g [] g
covers_nothing table g p a = (λ h. inl h, λ h. elim h as (λ _. passes p g a ≡ true) [ inl k ↦ k | inr k ↦ absurd k ])

-- a plain scope alone, added under each action that it covers
covers_one : (table : List CustomRow) (scope : PlainScope) (acts : List Action) (g h : Rights) → IsCoverage table scope.action acts
    → ((p : Filter → Bool) (a : Action) → passes p h a ≡ (passes p g a || (is_among a acts && p scope.filter))) → CoversMore table g (scope ∷ []) h
covers_one table scope acts g h coverage more p a = (to, from)
  where
    to : passes p h a ≡ true → (passes p g a ≡ true) ⊎ OneOf (IsCovering table p a) (scope ∷ [])
    to k = elim (or_cases (passes p g a) (is_among a acts && p scope.filter) (sym (more p a) ∙ k)) as (λ _. (passes p g a ≡ true) ⊎ OneOf (IsCovering table p a) (scope ∷ [])) [
      | inl k ↦ inl k
      | inr k ↦ inr (inl ((coverage.exact a).0 (left (is_among a acts) (p scope.filter) k), right (is_among a acts) (p scope.filter) k))
    ]

    from : (passes p g a ≡ true) ⊎ OneOf (IsCovering table p a) (scope ∷ []) → passes p h a ≡ true
    from k = more p a ∙ elim k as (λ _. (passes p g a || (is_among a acts && p scope.filter)) ≡ true) [
      | inl k ↦ or_left (passes p g a) (is_among a acts && p scope.filter) k
      | inr k ↦ let c = one_alone (IsCovering table p a) scope k in or_right (passes p g a) (is_among a acts && p scope.filter) (both_true (is_among a acts) (p scope.filter) ((coverage.exact a).1 c.0) c.1)
    ]

pub covers_under : {E : Type 0} (table : List CustomRow) (action : Action) (o : Option Filter) (f : Filter) (acts : List Action) (g h : Rights) (r : Result (Unit {0}) E) → o ≡ Some f
    → IsCoverage table action acts → OnOk r ((p : Filter → Bool) (a : Action) → passes p h a ≡ (passes p g a || (is_among a acts && p f)))
    → OnOk r (CoversMore table g (under action o) h)
covers_under table action None f acts g h r e coverage more = cc
covers_under table action (Some k) f acts g h (Ok u) e coverage more =
    subst (λ (o : Option Filter). CoversMore table g (under action o) h) (sym e) (covers_one table (record { action = action; filter = f }) acts g h coverage more)
covers_under table action (Some k) f acts g h (Err x) e coverage more = tt

pub covers_without : (table : List CustomRow) (action : Action) (o : Option Filter) (g : Rights) → o ≡ None → CoversMore table g (under action o) g
covers_without table action None g e = covers_nothing table g
covers_without table action (Some f) g e = cc

-- what is added first, and what is added then
covers_both : (table : List CustomRow) (g middle h : Rights) (xs ys : List PlainScope) → CoversMore table g xs middle → CoversMore table middle ys h → CoversMore table g (xs ++ ys) h
covers_both table g middle h xs ys first then p a = (to, from)
  where
    P : PlainScope → Type 0
    P = IsCovering table p a

    to : passes p h a ≡ true → (passes p g a ≡ true) ⊎ OneOf (IsCovering table p a) (xs ++ ys)
    to k = elim ((then p a).0 k) as (λ _. (passes p g a ≡ true) ⊎ OneOf (IsCovering table p a) (xs ++ ys)) [
      | inl k ↦ elim ((first p a).0 k) as (λ _. (passes p g a ≡ true) ⊎ OneOf (IsCovering table p a) (xs ++ ys)) [
        | inl k ↦ inl k
        | inr k ↦ inr (one_left (IsCovering table p a) xs ys k)
      ]
      | inr k ↦ inr (one_right (IsCovering table p a) xs ys k)
    ]

    from : (passes p g a ≡ true) ⊎ OneOf (IsCovering table p a) (xs ++ ys) → passes p h a ≡ true
    from k = (then p a).1 (elim k as (λ _. (passes p middle a ≡ true) ⊎ OneOf (IsCovering table p a) ys) [
      | inl k ↦ inl ((first p a).1 (inl k))
      | inr k ↦ elim (one_cases (IsCovering table p a) xs ys k) as (λ _. (passes p middle a ≡ true) ⊎ OneOf (IsCovering table p a) ys) [
        | inl k ↦ inl ((first p a).1 (inr k))
        | inr k ↦ inr k
      ]
    ])

-- one more of a list, each of which means plain scopes
pub covers_next : {X : Type 0} (table : List CustomRow) (f : X → List PlainScope) (xs ys : List X) (x : X) (g middle h : Rights) → ys ≡ xs ++ x ∷ []
    → CoversMore table g (flat_map f xs) middle → CoversMore table middle (f x) h → CoversMore table g (flat_map f ys) h
covers_next table f xs ys x g middle h e first then =
    subst (λ (plain : List PlainScope). CoversMore table g plain h) (flat_map_more f [] xs x ∙ sym (ap (flat_map f) e)) (covers_both table g middle h (flat_map f xs) (f x) first then)

-- nothing yet, and then all that was added to nothing
pub covers_at_first : (table : List CustomRow) (g : Rights) → g ≡ empty → CoversMore table empty [] g
covers_at_first table g e = subst (λ (h : Rights). CoversMore table empty [] h) (sym e) (covers_nothing table empty)

pub covers_from_none : (table : List CustomRow) (plain : List PlainScope) (h : Rights) → CoversMore table empty plain h → GrantsCovered table plain h
covers_from_none table plain h more p a = (to, from)
  where
    to : passes p h a ≡ true → OneOf (IsCovering table p a) plain
    to k = elim ((more p a).0 k) as (λ _. OneOf (IsCovering table p a) plain) [
      | inl k ↦ absurd (clash (passes p empty a) k (none_passes p empty a refl))
      | inr k ↦ k
    ]

    from : OneOf (IsCovering table p a) plain → passes p h a ≡ true
    from k = (more p a).1 (inr k)

-- ---- no scope means `OwnerOf`

abbrev IsOwning : PlainScope → Type 0
IsOwning scope = IsTrue (is_owner_of scope.filter)

owns : Option Filter → Bool
owns None = false
owns (Some f) = is_owner_of f

user_plain : (o : Owner) → owns (owning_user o) ≡ false
unfolding owns
user_plain (Own.User u) = refl
user_plain (Own.Service v) = refl

service_plain : (o : Owner) → owns (owning_service o) ≡ false
unfolding owns
service_plain (Own.User u) = refl
service_plain (Own.Service v) = refl

server_plain : (o : Option ServerKey) → owns (server_of_issue o) ≡ false
unfolding owns
server_plain (Some k) = refl
server_plain None = refl

meant_plain : (f : RawFilter) (holder : Holder) → owns (filter_meant f holder) ≡ false
unfolding owns
meant_plain Raw.HolderUser holder = user_plain holder.owner
meant_plain Raw.HolderServer holder = server_plain holder.issued_for
meant_plain Raw.HolderService holder = service_plain holder.owner
meant_plain Raw.Unfiltered holder = refl
meant_plain (Raw.User u) holder = refl
meant_plain (Raw.Group g) holder = refl
meant_plain (Raw.Server k) holder = refl
meant_plain (Raw.Service v) holder = refl

under_plain : (a : Action) (o : Option Filter) → owns o ≡ false → OneOf IsOwning (under a o) → ⊥
unfolding owns
under_plain a None h k = k
under_plain a (Some f) h (inl k) = clash (is_owner_of f) k h
under_plain a (Some f) h (inr k) = k

means_plain : (holder : Holder) (scope : RawScope) → OneOf IsOwning (means scope holder) → ⊥
means_plain holder (Plain a f) k = under_plain a (filter_meant f holder) (meant_plain f holder) k
means_plain holder SelfScope k = none_flat IsOwning (λ a. under a (owning_user holder.owner)) (λ a. under_plain a (owning_user holder.owner) (user_plain holder.owner)) profile k
means_plain holder Inherit k = k

pub expanded_plain : {E : Type 0} (table : List CustomRow) (scopes : List RawScope) (holder : Holder) (r : Result Rights E)
    → IfOk r (λ g. GrantsCovered table (plain_scopes scopes holder) g) → IfOk r HasNoOwnerOf
expanded_plain table scopes holder (Ok g) h = λ a. not_true (passes is_owner_of g a) (λ k.
    none_flat IsOwning (λ scope. means scope holder) (means_plain holder) scopes
    (one_weaker (IsCovering table is_owner_of a) IsOwning (λ _ c. c.1) (plain_scopes scopes holder) ((h is_owner_of a).0 k)))
expanded_plain table scopes holder (Err x) h = tt

pub expanded : {E : Type 0} (table : List CustomRow) (scopes : List RawScope) (holder : Holder) (r : Result Rights E)
    → IfOk r (λ g. GrantsCovered table (plain_scopes scopes holder) g) → IfOk r (λ g. (m : Context) (a : Action) (x : Object) → IsTrue (grant_admits m g a x) ↔ IsMeant table scopes holder m a x)
expanded table scopes holder (Ok g) h = λ m a x. h (λ f. admits a m f x) a
expanded table scopes holder (Err x) h = tt
