-- A filter more in a grant, as its tree of sets has it.
use Rattle.std.proofs.Common.{◌≡◌, Result, Ok, Err, Some, None, OnOk, OnErr, sym, ap, ◌∙◌}
use Rattle.std.specs.BTreeMap.{BTreeMap, WritesThrough, get_by}
use Rattle.std.specs.FinMap.{empty, insert}
use Rattle.std.specs.FinSet.{FinSet}
use Rattle.keyed_rows.specs.Rows.{map_of}
use Rattle.keyed_rows.proofs.Finite.{written_row, lent_row, insert_kept}
use Rattle.scope_names.specs.declared.action.Action.{Action}
use Rattle.scope_names.specs.ActionOrder.{action_cmp, actions_total, actions_exact}
use Rattle.scope_filters.specs.declared.filter.Filter.{Filter}
use Rattle.scope_filters.specs.FilterOrder.{filter_cmp}
use Rattle.scope_filters.specs.Grants.{with_one, with_filter}

module _ (m n : BTreeMap Action (FinSet filter_cmp)) (a : Action) (f : Filter) (old new : FinSet filter_cmp)
    (w : WritesThrough action_cmp (action_cmp a) m new n) (at : Some old ≡ get_by (action_cmp a) m) where
  pub added : {E : Type 0} (r : Result (Unit {0}) E) → OnOk r (new ≡ insert old f tt) → OnOk r (map_of action_cmp n ≡ with_filter (map_of action_cmp m) a f)
  added (Ok u) ok = written_row actions_total actions_exact m n a old new w at ∙ ap (insert (map_of action_cmp m) a) (ok ∙ sym (ap (λ o. with_one o f) (lent_row actions_total m a _ at)))
  added (Err e) ok = tt

  pub not_added : {E : Type 0} (r : Result (Unit {0}) E) → OnErr r (new ≡ old) → OnErr r (map_of action_cmp n ≡ map_of action_cmp m)
  not_added (Ok u) err = tt
  not_added (Err e) err = written_row actions_total actions_exact m n a old new w at ∙ ap (insert (map_of action_cmp m) a) err
      ∙ insert_kept actions_total actions_exact (map_of action_cmp m) a old (lent_row actions_total m a _ at)

-- the first filter under an action
pub added_first : {E : Type 0} (m before n : BTreeMap Action (FinSet filter_cmp)) (a : Action) (f : Filter) (filters : FinSet filter_cmp) (r : Result (Unit {0}) E)
    → before ≡ m → None ≡ get_by (action_cmp a) m → filters ≡ insert empty f tt
    → OnOk r (map_of action_cmp n ≡ insert (map_of action_cmp before) a filters) → OnOk r (map_of action_cmp n ≡ with_filter (map_of action_cmp m) a f)
added_first m before n a f filters (Ok u) same at is ok =
    ok ∙ ap (λ b. insert (map_of action_cmp b) a filters) same ∙ ap (insert (map_of action_cmp m) a) (is ∙ sym (ap (λ o. with_one o f) (lent_row actions_total m a _ at)))
added_first m before n a f filters (Err e) same at is ok = tt
