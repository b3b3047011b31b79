-- What a grant is: for each action a set of filters; and what it admits.
use Rattle.std.specs.Prelude.{◌≡◌, Bool, ◌&&◌, ◌||◌, List, [], Option, Some, None}
use Rattle.std.specs.FinMap.{FinMap, empty, get, insert, keys}
use Rattle.std.specs.FinSet.{FinSet}
use Rattle.scope_names.specs.declared.action.Action.{Action}
use Rattle.scope_names.specs.ActionOrder.{action_cmp, same_action}
use Rattle.scope_filters.specs.declared.filter.Filter.{Filter}
use Rattle.scope_filters.specs.declared.object.Object.{Object}
use Rattle.scope_filters.specs.Contexts.{Context}
use Rattle.scope_filters.specs.Admits.{admits, any_admits}
use Rattle.scope_filters.specs.FilterOrder.{filter_cmp}

-- What may be done: for each action that stands in it a set of filters
abbrev pub Rights : Type 0
Rights = FinMap action_cmp (FinSet filter_cmp)

-- The filters of a set that may lack, in order
abbrev pub listed : Option (FinSet filter_cmp) → List Filter
listed None = []
listed (Some filters) = keys filters

-- The filters under an action, in order
abbrev pub filters_at : Rights → Action → List Filter
filters_at g a = listed (get g a)

-- The grant g admits the action a on the object x: one of the filters under the action does, where m has the members of the groups
abbrev pub grant_admits : Context → Rights → Action → Object → Bool
grant_admits m g a x = any_admits a m (filters_at g a) x

-- A set that may lack, with one filter more
abbrev pub with_one : Option (FinSet filter_cmp) → Filter → FinSet filter_cmp
with_one None f = insert empty f tt
with_one (Some filters) f = insert filters f tt

-- the grant with one more filter under an action
abbrev pub with_filter : Rights → Action → Filter → Rights
with_filter g a f = insert g a (with_one (get g a) f)

-- The grant h admits what g does, and under the action a what the filter f does, and nothing else
abbrev pub AdmitsMore : Rights → Action → Filter → Rights → Type 0
AdmitsMore g a f h = (m : Context) (b : Action) (x : Object)
    → grant_admits m h b x ≡ ((same_action b a && admits b m f x) || grant_admits m g b x)
