-- The map of coverages as it is built, one action after another.
use Rattle.std.proofs.Common.{◌≡◌, Bool, true, false, ◌||◌, List, [], ◌∷◌, ◌++◌, cond, refl, sym, ap, ◌∙◌, subst}
use Rattle.std.specs.Prelude.{Option, Some, None}
use Rattle.std.specs.Option.{MatchOption, unwrap_or}
use Rattle.std.specs.List.Sorted.{IsStrictlySortedBy}
use Rattle.std.specs.BTreeMap.{BTreeMap, get, is_at}
use Rattle.std.specs.Map.{lookup}
use Rattle.std.proofs.lemmas.List.Folds.{list_any-append}
use Rattle.scope_names.specs.declared.action.Action.{Action}
use Rattle.scope_names.specs.declared.custom.CustomRow.{CustomRow}
use Rattle.scope_names.specs.ActionOrder.{action_cmp, same_action}
use Rattle.scope_names.specs.Coverage.{is_among, known, IsReached, IsReachedFrom, IsReach, IsCoverage}
use Rattle.scope_names.proofs.Among.{same_exact, same_back, same_self, or_left, among_one}

-- each action so far has its coverage, and no other
abbrev pub Covered : List CustomRow → BTreeMap Action (List Action) → List Action → Type 0
Covered rows map actions = (q : Action) → MatchOption (get action_cmp map q) (is_among q actions ≡ false) (λ covered. IsCoverage rows q covered)

-- from one action
one_from : (rows : List CustomRow) (a b : Action) → IsReachedFrom rows (a ∷ []) b → IsReached rows a b
one_from rows a b r = subst (λ x. IsReached rows x b) (sym (among_one a r.0 r.1)) r.2

from_one : (rows : List CustomRow) (a b : Action) → IsReached rows a b → IsReachedFrom rows (a ∷ []) b
from_one rows a b r = (a, or_left (same_action a a) false (same_self a), r)

pub coverage : (rows : List CustomRow) (a : Action) (actions : List Action) → is_among a (known rows) ≡ true → IsReach rows (a ∷ []) actions → IsCoverage rows a actions
coverage rows a actions k r = record {
  ascends = r.ascends;
  exact = λ b. (λ h. (k, one_from rows a b ((r.exact b).0 h)), λ h. (r.exact b).1 (from_one rows a b h.1));
}

-- ---- one action more

sym_same : (a q : Action) (t : Bool) → same_action a q ≡ t → same_action q a ≡ t
sym_same a q t h = same_back q a ∙ h

not_yet : (q a : Action) (xs : List Action) → is_among q xs ≡ false → same_action a q ≡ false → is_among q (xs ++ a ∷ []) ≡ false
not_yet q a xs h k = list_any-append (same_action q) xs (a ∷ []) ∙ ap (λ t. t || (same_action q a || false)) h ∙ ap (λ t. t || false) (sym_same a q false k)

at_other : (rows : List CustomRow) (q a : Action) (xs : List Action) (old new : Option (List Action)) → same_action a q ≡ false → new ≡ old → MatchOption old (is_among q xs ≡ false) (λ covered. IsCoverage rows q covered) → MatchOption new (is_among q (xs ++ a ∷ []) ≡ false) (λ covered. IsCoverage rows q covered)
at_other rows q a xs None new k e h = subst (λ o. MatchOption o (is_among q (xs ++ a ∷ []) ≡ false) (λ covered. IsCoverage rows q covered)) (sym e) (not_yet q a xs h k)
at_other rows q a xs (Some covered) new k e h = subst (λ o. MatchOption o (is_among q (xs ++ a ∷ []) ≡ false) (λ covered. IsCoverage rows q covered)) (sym e) h

at_it : (rows : List CustomRow) (q a : Action) (xs covered : List Action) (new : Option (List Action)) → same_action a q ≡ true → new ≡ Some covered → IsCoverage rows a covered → MatchOption new (is_among q (xs ++ a ∷ []) ≡ false) (λ covered. IsCoverage rows q covered)
at_it rows q a xs covered new k e h = subst (λ o. MatchOption o (is_among q (xs ++ a ∷ []) ≡ false) (λ covered. IsCoverage rows q covered)) (sym e) (subst (λ x. IsCoverage rows x covered) (same_exact a q k) h)

pub covered_more : (rows : List CustomRow) (a : Action) (xs covered : List Action) (old new : BTreeMap Action (List Action)) → ((q : Action) → get action_cmp new q ≡ cond (same_action a q) (Some covered) (get action_cmp old q)) → IsCoverage rows a covered → Covered rows old xs → Covered rows new (xs ++ a ∷ [])
covered_more rows a xs covered old new u h c q = by (same_action a q) refl
  where
    by : (t : Bool) → same_action a q ≡ t → MatchOption (get action_cmp new q) (is_among q (xs ++ a ∷ []) ≡ false) (λ covered. IsCoverage rows q covered)
    by true k = at_it rows q a xs covered (get action_cmp new q) k (u q ∙ ap (λ t. cond t (Some covered) (get action_cmp old q)) k) h
    by false k = at_other rows q a xs (get action_cmp old q) (get action_cmp new q) k (u q ∙ ap (λ t. cond t (Some covered) (get action_cmp old q)) k) (c q)

-- ---- with all known actions done

sorted_nil : IsStrictlySortedBy action_cmp []
unfolding IsStrictlySortedBy
sorted_nil = tt

nothing : (rows : List CustomRow) (a : Action) → is_among a (known rows) ≡ false → IsCoverage rows a []
nothing rows a h = record { ascends = sorted_nil; exact = λ b. (λ k. absurd (cc), λ k. absurd (let e : true ≡ false = sym k.0 ∙ h in cc)) }

pub all_covered : (rows : List CustomRow) (map : BTreeMap Action (List Action)) → Covered rows map (known rows) → (a : Action) → IsCoverage rows a (unwrap_or (get action_cmp map a) [])
all_covered rows map c a = by (get action_cmp map a) (c a)
  where
    by : (o : Option (List Action)) → MatchOption o (is_among a (known rows) ≡ false) (λ covered. IsCoverage rows a covered) → IsCoverage rows a (unwrap_or o [])
    by None h = nothing rows a h
    by (Some covered) h = h

pub covered_none : (rows : List CustomRow) (map : BTreeMap Action (List Action)) → map.entries ≡ [] → Covered rows map []
covered_none rows map e q = subst (λ (o : Option (List Action)). MatchOption o (false ≡ false) (λ covered. IsCoverage rows q covered)) (sym (ap (λ es. lookup (is_at (action_cmp q)) es) e)) refl
