-- What a grant has under an action after filters were added, told by tests of filters.
use Rattle.std.proofs.Common.{◌≡◌, Bool, true, false, ◌&&◌, ◌||◌, cond, List, [], ◌∷◌, ◌++◌, Option, Some, None, refl, sym, ap, ◌∙◌}
use Rattle.std.specs.List.{list_any}
use Rattle.std.specs.FinMap.{empty, get, keys, get-insert, get-empty}
use Rattle.std.specs.FinSet.{FinSet}
use Rattle.std.proofs.lemmas.List.Folds.{list_any-append}
use Rattle.keyed_rows.proofs.Finite.{any_key, keys_empty, tied}
use Rattle.scope_names.specs.declared.action.Action.{Action}
use Rattle.scope_names.specs.ActionOrder.{action_cmp, same_action, actions_total, actions_exact}
use Rattle.scope_names.specs.Coverage.{is_among}
use Rattle.scope_filters.specs.declared.filter.Filter.{Filter}
use Rattle.scope_filters.specs.contracts.filter.FilterOrd.TheImpl.Laws.{total-law}
use Rattle.scope_filters.specs.FilterOrder.{filter_cmp, filter_exact}
use Rattle.scope_filters.specs.Grants.{Rights, listed, with_one, with_filter}
use Rattle.scope_expand.specs.Passes.{passes}

-- ---- one filter more

any_one : (p : Filter → Bool) (o : Option (FinSet filter_cmp)) (f : Filter) → list_any p (keys (with_one o f)) ≡ (p f || list_any p (listed o))
any_one p None f = any_key total-law filter_exact p empty f tt ∙ ap (λ fs. p f || list_any p fs) (keys_empty filter_cmp empty refl)
any_one p (Some filters) f = any_key total-law filter_exact p filters f tt

any_at : (p : Filter → Bool) (g : Rights) (a b : Action) (f : Filter) (same : Bool) → (same ≡ true → b ≡ a)
    → list_any p (listed (cond same (Some (with_one (get g a) f)) (get g b))) ≡ ((same && p f) || list_any p (listed (get g b)))
any_at p g a b f true is = any_one p (get g a) f ∙ ap (λ c. p f || list_any p (listed (get g c))) (sym (is refl))
any_at p g a b f false is = refl

pub passes_more : (p : Filter → Bool) (g : Rights) (a b : Action) (f : Filter) → passes p (with_filter g a f) b ≡ ((same_action b a && p f) || passes p g b)
passes_more p g a b f =
    ap (λ o. list_any p (listed o)) (get-insert actions_total g a (with_one (get g a) f) b)
    ∙ any_at p g a b f (same_action b a) (λ e. actions_exact b a (tied (action_cmp b a) e))

-- ---- under several actions

each_step : (s q o t : Bool) → ((s && q) || (o || (t && q))) ≡ (o || ((t || (s || false)) && q))
each_step true true true true = refl
each_step true true true false = refl
each_step true true false true = refl
each_step true true false false = refl
each_step true false true true = refl
each_step true false true false = refl
each_step true false false true = refl
each_step true false false false = refl
each_step false true true true = refl
each_step false true true false = refl
each_step false true false true = refl
each_step false true false false = refl
each_step false false true true = refl
each_step false false true false = refl
each_step false false false true = refl
each_step false false false false = refl

pub each_more : (p : Filter → Bool) (g : Rights) (taken : List Action) (a b : Action) (f : Filter) (old : Bool) → passes p g b ≡ (old || (is_among b taken && p f))
    → passes p (with_filter g a f) b ≡ (old || (is_among b (taken ++ a ∷ []) && p f))
each_more p g taken a b f old h =
    passes_more p g a b f ∙ ap (λ r. (same_action b a && p f) || r) h ∙ each_step (same_action b a) (p f) old (is_among b taken)
    ∙ ap (λ r. old || (r && p f)) (sym (list_any-append (same_action b) taken (a ∷ [])))

pub each_none : (old q : Bool) → old ≡ (old || (false && q))
each_none true q = refl
each_none false q = refl

pub none_passes : (p : Filter → Bool) (g : Rights) (b : Action) → g ≡ empty → passes p g b ≡ false
none_passes p g b e = ap (λ o. list_any p (listed o)) (ap (λ g. get g b) e ∙ get-empty action_cmp b)
