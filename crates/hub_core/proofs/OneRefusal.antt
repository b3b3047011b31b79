-- Whether an owner holds what is asked for a token: any two tests of it refuse the same.
use Rattle.std.proofs.Common.{◌≡◌, Bool, true, false, List, [], ◌∷◌, ◌++◌, refl, sym, ap, ◌∙◌, subst, ◌⊎◌, inl, inr}
use Rattle.std.specs.Prelude.{Some, IsTrue}
use Rattle.std.specs.Bool.{IsFalse}
use Rattle.std.specs.FinMap.{nat_cmp-IsAntisymmetric, slice_cmp-IsAntisymmetric}
use Rattle.std.specs.Ordering.{is_le, ordering_reverse, ordering_then}
use Rattle.std.specs.declared.cmp.Ordering.{Ordering}
use Rattle.std.specs.declared.cmp.Ordering.TheVariants.{Less, Equal, Greater}
use Rattle.scope_names.specs.declared.action.Action.{Action}
use Rattle.scope_names.specs.declared.custom.CustomRow.{CustomRow}
use Rattle.scope_names.specs.ActionOrder.{action_cmp, actions_exact, actions_total}
use Rattle.scope_names.specs.Actions.{text_of}
use Rattle.scope_names.specs.Coverage.{Covers}
use Rattle.scope_filters.specs.declared.filter.Filter.{Filter}
use Rattle.scope_filters.specs.declared.holder.Owner.{Owner}
use Rattle.scope_filters.specs.declared.object.Object.{Object}
use Rattle.scope_filters.specs.declared.scope.RawScope.{RawScope}
use Rattle.scope_filters.specs.Admits.{admits}
use Rattle.scope_filters.specs.Contexts.{Context}
use Rattle.scope_filters.specs.Grants.{Rights, grant_admits}
use Rattle.scope_filters.specs.Scopes.{filter_text}
use Rattle.scope_expand.specs.declared.PlainScope.{PlainScope}
use Rattle.scope_expand.specs.Covering.{IsCovering}
use Rattle.scope_expand.specs.Meaning.{plain_scopes}
use Rattle.scope_expand.specs.Passes.{OneOf}
use Rattle.scope_meet.specs.Containment.{IsOutside, row_cmp, same_filter}
use Rattle.scope_meet.specs.FilterTexts.{text_cmp, written}
use Rattle.scope_meet.specs.declared.inside.Inside.{Inside}
use Rattle.scope_meet.specs.declared.inside.Inside.TheVariants.{Yes, NotHeld}
use Rattle.scope_meet.proofs.Least.{same_filters, text_total}
use Rattle.hub_tables.specs.Memberships.{members_of}
use Rattle.hub_tables.specs.State.{State}
use Rattle.token_store.specs.Issuing.{AreWithin, IsMissing, asking}
use Rattle.hub_machine.specs.declared.refusal.Refusal.TheVariants as No
use Rattle.access_calls.specs.TokenCalls.{if_not_held}

-- ---- the order of rows

both_le : (c d : Ordering) → c ≡ ordering_reverse d → is_le c ≡ true → is_le d ≡ true → c ≡ Equal
both_le Equal d e h k = refl
both_le Less Greater e h k = cc
both_le Less Less e h k = cc
both_le Less Equal e h k = cc
both_le Greater d e h k = cc

then_reverse : (a b : Ordering) → ordering_reverse (ordering_then a b) ≡ ordering_then (ordering_reverse a) (ordering_reverse b)
then_reverse Less b = refl
then_reverse Equal b = refl
then_reverse Greater b = refl

rows_turn : (a b : Action) (f k : Filter) → row_cmp a f b k ≡ ordering_reverse (row_cmp b k a f)
rows_turn a b f k =
    (λ i. ordering_then (actions_total.antisymm a b i) (text_total.antisymm f k i)) ∙ sym (then_reverse (action_cmp b a) (text_cmp k f))

first_equal : (c d : Ordering) → ordering_then c d ≡ Equal → c ≡ Equal
first_equal Less d h = cc
first_equal Equal d h = refl
first_equal Greater d h = cc

second_equal : (c d : Ordering) → ordering_then c d ≡ Equal → d ≡ Equal
second_equal Less d h = cc
second_equal Equal d h = h
second_equal Greater d h = cc

-- two rows of which none comes before the other are one scope
one_scope : (a b : Action) (f k : Filter) → is_le (row_cmp a f b k) ≡ true → is_le (row_cmp b k a f) ≡ true → if_not_held (NotHeld a f) ≡ if_not_held (NotHeld b k)
one_scope a b f k h l =
    let equal : row_cmp a f b k ≡ Equal = both_le (row_cmp a f b k) (row_cmp b k a f) (rows_turn a b f k) h l in
    let action : a ≡ b = actions_exact a b (first_equal (action_cmp a b) (text_cmp f k) equal) in
    let text : filter_text (written f) ≡ filter_text (written k) =
    slice_cmp-IsAntisymmetric nat_cmp-IsAntisymmetric (filter_text (written f)) (filter_text (written k)) (second_equal (action_cmp a b) (text_cmp f k) equal) in
    λ i. Some (No.NotHeld (text_of (action i) ++ text i))

-- ---- an object that a missing row admits is meant by what is asked

one_means : (table : List CustomRow) (m : Context) (a : Action) (f : Filter) (x : Object) (scopes : List PlainScope) → IsTrue (admits a m f x)
    → OneOf (IsCovering table (same_filter f) a) scopes → OneOf (λ scope. Covers table scope.action a × IsTrue (admits a m scope.filter x)) scopes
one_means table m a f x [] h one = one
one_means table m a f x (scope ∷ scopes) h (inl c) = inl (c.0, subst (λ (k : Filter). IsTrue (admits a m k x)) (same_filters f scope.filter c.1) h)
one_means table m a f x (scope ∷ scopes) h (inr rest) = inr (one_means table m a f x scopes h rest)

both : (b : Bool) → IsTrue b → IsFalse b → ⊥
both true h k = cc
both false h k = cc

module _ (t : State) (owner : Owner) (scopes : List RawScope) where
  -- nothing is missing where all that is meant lies within the rights
  none_missing : (rights : Rights) (a : Action) (f : Filter) → AreWithin t rights owner scopes Yes → IsMissing t rights owner scopes a f → ⊥
  none_missing rights a f all missing =
      let out = missing.1 in
      both (grant_admits (members_of t.groups) rights a out.0)
      (all a out.0 out.1 (one_means t.scopes (members_of t.groups) a f out.0 (plain_scopes scopes (asking owner)) out.2 missing.0)) out.3

  module _ (rights rights' : Rights) (same : (a : Action) (x : Object) → grant_admits (members_of t.groups) rights a x ≡ grant_admits (members_of t.groups) rights' a x) where
    still_outside : (a : Action) (f : Filter) → IsOutside (members_of t.groups) rights a f → IsOutside (members_of t.groups) rights' a f
    still_outside a f out = (out.0, out.1, out.2, subst IsFalse (same a out.0) out.3)

    still_missing : (a : Action) (f : Filter) → IsMissing t rights owner scopes a f → IsMissing t rights' owner scopes a f
    still_missing a f missing = (missing.0, still_outside a f missing.1)

    still_within : (inside : Inside) → AreWithin t rights' owner scopes inside → ((a : Action) (f : Filter) → IsMissing t rights' owner scopes a f → IsMissing t rights owner scopes a f)
        → AreWithin t rights owner scopes inside
    still_within Yes h back = λ a x object meant. subst IsTrue (sym (same a x)) (h a x object meant)
    still_within (NotHeld a f) h back = (back a f h.0, λ b k missing. h.1 b k (still_missing b k missing))

  -- by one grant
  one_refusal : (rights : Rights) (one other : Inside) → AreWithin t rights owner scopes one → AreWithin t rights owner scopes other → if_not_held one ≡ if_not_held other
  one_refusal rights Yes Yes h h' = refl
  one_refusal rights Yes (NotHeld b k) h h' = absurd (none_missing rights b k h h'.0)
  one_refusal rights (NotHeld a f) Yes h h' = absurd (none_missing rights a f h' h.0)
  one_refusal rights (NotHeld a f) (NotHeld b k) h h' = one_scope a b f k (h.1 b k h'.0) (h'.1 a f h.0)

-- by two grants that admit the same
pub same_refusal : (t : State) (owner : Owner) (scopes : List RawScope) (rights rights' : Rights) (one other : Inside)
    → ((a : Action) (x : Object) → grant_admits (members_of t.groups) rights a x ≡ grant_admits (members_of t.groups) rights' a x)
    → AreWithin t rights owner scopes one → AreWithin t rights' owner scopes other → if_not_held one ≡ if_not_held other
same_refusal t owner scopes rights rights' one other same h h' =
    one_refusal t owner scopes rights one other h
    (still_within t owner scopes rights rights' same other h' (still_missing t owner scopes rights' rights (λ a x. sym (same a x))))
