-- What a grant with one more filter admits.
use Rattle.std.proofs.Common.{◌≡◌, Bool, true, false, ◌&&◌, ◌||◌, cond, Result, Ok, Err, Option, Some, None, OnOk, refl, sym, ap, subst, ◌∙◌}
use Rattle.std.specs.List.{list_any}
use Rattle.std.specs.FinMap.{empty, get, keys, get-insert}
use Rattle.std.specs.FinSet.{FinSet}
use Rattle.keyed_rows.proofs.Finite.{any_key, keys_empty, tied}
use Rattle.scope_names.specs.declared.action.Action.{Action}
use Rattle.scope_names.specs.ActionOrder.{action_cmp, same_action, actions_total, actions_exact}
use Rattle.scope_filters.specs.declared.filter.Filter.{Filter}
use Rattle.scope_filters.specs.contracts.filter.FilterOrd.TheImpl.Laws.{total-law}
use Rattle.scope_filters.specs.Admits.{admits}
use Rattle.scope_filters.specs.FilterOrder.{filter_cmp, filter_exact}
use Rattle.scope_filters.specs.Grants.{Rights, listed, with_one, with_filter, AdmitsMore}

any_one : (p : Filter → Bool) (o : Option (FinSet filter_cmp)) (f : Filter) → list_any p (keys (with_one o f)) ≡ (p f || list_any p (listed o))
any_one p None f = any_key total-law filter_exact p empty f tt ∙ ap (λ fs. p f || list_any p fs) (keys_empty filter_cmp empty refl)
any_one p (Some filters) f = any_key total-law filter_exact p filters f tt

any_at : (p : Filter → Bool) (g : Rights) (a b : Action) (f : Filter) (same : Bool) → (same ≡ true → b ≡ a)
    → list_any p (listed (cond same (Some (with_one (get g a) f)) (get g b))) ≡ ((same && p f) || list_any p (listed (get g b)))
any_at p g a b f true is = any_one p (get g a) f ∙ ap (λ c. p f || list_any p (listed (get g c))) (sym (is refl))
any_at p g a b f false is = refl

pub more : (g : Rights) (a : Action) (f : Filter) → AdmitsMore g a f (with_filter g a f)
more g a f m b x =
    let p : Filter → Bool = λ f. admits b m f x in
    ap (λ o. list_any p (listed o)) (get-insert actions_total g a (with_one (get g a) f) b)
    ∙ any_at p g a b f (same_action b a) (λ e. actions_exact b a (tied (action_cmp b a) e))

-- after a filter was added
pub added_more : {E : Type 0} (g h : Rights) (a : Action) (f : Filter) (r : Result (Unit {0}) E) → OnOk r (h ≡ with_filter g a f) → OnOk r (AdmitsMore g a f h)
added_more g h a f (Ok u) e = subst (AdmitsMore g a f) (sym e) (more g a f)
added_more g h a f (Err x) e = tt
