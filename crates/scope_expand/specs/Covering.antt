-- What plain scopes grant: their filters, under each action that they cover; and the filters of two grants together.
use Rattle.std.specs.Prelude.{◌≡◌, Bool, IsTrue, List, ◌↔◌, ◌&&◌, ◌||◌, ◌⊎◌}
use Rattle.std.specs.FinSet.{FinSet}
use Rattle.std.specs.FinMap.{keys}
use Rattle.std.specs.List.{list_any}
use Rattle.scope_names.specs.declared.action.Action.{Action}
use Rattle.scope_names.specs.declared.custom.CustomRow.{CustomRow}
use Rattle.scope_names.specs.ActionOrder.{same_action}
use Rattle.scope_names.specs.Coverage.{Covers}
use Rattle.scope_filters.specs.declared.filter.Filter.{Filter}
use Rattle.scope_filters.specs.FilterOrder.{filter_cmp}
use Rattle.scope_filters.specs.Grants.{Rights}
use Rattle.scope_expand.specs.declared.PlainScope.{PlainScope}
use Rattle.scope_expand.specs.Passes.{OneOf, passes}

-- a plain scope covers the action, and its filter passes the test
abbrev pub IsCovering : List CustomRow → (Filter → Bool) → Action → PlainScope → Type 0
IsCovering table p a scope = Covers table scope.action a × IsTrue (p scope.filter)

-- a filter under an action passes a test exactly where one of a plain scope that covers the action does
abbrev pub GrantsCovered : List CustomRow → List PlainScope → Rights → Type 0
GrantsCovered table plain g = (p : Filter → Bool) (a : Action) → IsTrue (passes p g a) ↔ OneOf (IsCovering table p a) plain

-- a filter under an action passes a test exactly where one did before or one of a plain scope that covers the action does
abbrev pub CoversMore : List CustomRow → Rights → List PlainScope → Rights → Type 0
CoversMore table old plain new =
    (p : Filter → Bool) (a : Action) → IsTrue (passes p new a) ↔ (IsTrue (passes p old a) ⊎ OneOf (IsCovering table p a) plain)

-- an entry of a grant stands under the action and one of its filters passes the test
abbrev pub row_passes : (Filter → Bool) → Action → Action × FinSet filter_cmp → Bool
row_passes p a row = same_action a row.0 && list_any p (keys row.1)

-- a grant has, under each action, the filters of two others
abbrev pub IsJoin : Rights → Rights → Rights → Type 0
IsJoin g h joined = (p : Filter → Bool) (a : Action) → passes p joined a ≡ (passes p g a || passes p h a)
