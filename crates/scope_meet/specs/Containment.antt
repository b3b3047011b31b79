-- Whether a grant admits all that another does, and else the first row that it doesn't hold whole.
use Rattle.std.specs.Prelude.{Bool, IsTrue}
use Rattle.std.specs.Bool.{IsFalse}
use Rattle.std.specs.Ordering.{is_le, eq_by_cmp, ordering_then}
use Rattle.std.specs.declared.cmp.Ordering.{Ordering}
use Rattle.scope_names.specs.declared.action.Action.{Action}
use Rattle.scope_names.specs.ActionOrder.{action_cmp}
use Rattle.scope_filters.specs.declared.filter.Filter.{Filter}
use Rattle.scope_filters.specs.declared.object.Object.{Object}
use Rattle.scope_filters.specs.Admits.{admits}
use Rattle.scope_filters.specs.Contexts.{Context}
use Rattle.scope_filters.specs.FilterOrder.{filter_cmp}
use Rattle.scope_filters.specs.Grants.{Rights, grant_admits}
use Rattle.scope_expand.specs.Passes.{passes}
use Rattle.scope_meet.specs.declared.inside.Inside.{Inside}
use Rattle.scope_meet.specs.declared.inside.Inside.TheVariants.{Yes, NotHeld}
use Rattle.scope_meet.specs.FilterTexts.{text_cmp}
use Rattle.scope_meet.specs.Named.{IsObject}

-- The two filters are one
abbrev pub same_filter : Filter → Filter → Bool
same_filter = eq_by_cmp filter_cmp

-- On some object that there may be (`IsObject`) the filter f admits the action a, and the grant h doesn't. In all that follows m has the
-- members of the groups, and h is the grant that is to hold what another, g, admits
abbrev pub IsOutside : Context → Rights → Action → Filter → Type 0
IsOutside m h a f = (x : Object) × IsObject x × IsTrue (admits a m f x) × IsFalse (grant_admits m h a x)

-- A row of g that h doesn't hold whole: the filter f stands in g under the action a, and is outside h
abbrev pub IsNotHeld : Context → Rights → Rights → Action → Filter → Type 0
IsNotHeld m g h a f = IsTrue (passes (same_filter f) g a) × IsOutside m h a f

-- The order of the rows of a grant, each an action with a filter, a with f before b with k or behind it: by the action, whose order is that
-- of the texts, and then by the text of the filter
abbrev pub row_cmp : Action → Filter → Action → Filter → Ordering
row_cmp a f b k = ordering_then (action_cmp a b) (text_cmp f k)

-- What comparing g with h gives: all that g admits on an object that there may be h admits too; or the first row of g, in that order, that
-- h doesn't hold whole
abbrev pub IsInside : Context → Rights → Rights → Inside → Type 0
IsInside m g h Yes = (a : Action) (x : Object) → IsObject x → IsTrue (grant_admits m g a x) → IsTrue (grant_admits m h a x)
IsInside m g h (NotHeld a f) = IsNotHeld m g h a f × ((b : Action) (k : Filter) → IsNotHeld m g h b k → IsTrue (is_le (row_cmp a f b k)))
