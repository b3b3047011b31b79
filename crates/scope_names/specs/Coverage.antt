-- What an action covers: itself, and all that is reached by steps of the table and of the declared custom scopes.
use Rattle.std.specs.Prelude.{◌≡◌, Bool, IsTrue, List, [], ◌∷◌, ◌++◌, map, if◌then◌else◌, ◌↔◌}
use Rattle.std.specs.List.{flat_map, list_any}
use Rattle.std.specs.List.Sorted.{IsStrictlySortedBy}
use Rattle.scope_names.specs.declared.action.Action.{Action}
use Rattle.scope_names.specs.declared.action.Action.TheVariants.{Custom}
use Rattle.scope_names.specs.declared.custom.CustomRow.{CustomRow}
use Rattle.scope_names.specs.Actions.{listed, row_of}
use Rattle.scope_names.specs.ActionOrder.{action_cmp, same_action}

abbrev pub is_among : Action → List Action → Bool
is_among a actions = list_any (same_action a) actions

-- the actions that there are: those of the table, and the declared ones
abbrev pub known : List CustomRow → List Action
known rows = listed ++ map (λ row. Custom row.name) rows

-- the subscopes that a row declares of an action: none if the row is of another one
abbrev pub declared_by : Action → CustomRow → List Action
declared_by a row = if same_action (Custom row.name) a then map Custom row.subscopes else []

-- the direct subscopes of an action: those of the table, and those of the declared rows
abbrev pub subscopes : List CustomRow → Action → List Action
subscopes rows a = (row_of a).subscopes ++ flat_map (declared_by a) rows

-- the path leads from a to b, each step to a direct subscope
abbrev pub IsPath : List CustomRow → Action → List Action → Action → Type 0
IsPath rows a [] b = a ≡ b
IsPath rows a (c ∷ path) b = IsTrue (is_among c (subscopes rows a)) × IsPath rows c path b

-- b is reached from a by zero or more steps
abbrev pub IsReached : List CustomRow → Action → Action → Type 0
IsReached rows a b = (path : List Action) × IsPath rows a path b

-- a covers b. An undeclared custom action covers nothing, not even itself
abbrev pub Covers : List CustomRow → Action → Action → Type 0
Covers rows a b = IsTrue (is_among a (known rows)) × IsReached rows a b

-- b is reached from one of the actions
abbrev pub IsReachedFrom : List CustomRow → List Action → Action → Type 0
IsReachedFrom rows from b = (a : Action) × IsTrue (is_among a from) × IsReached rows a b

-- the list has all that is reached from some actions, in order
pub record IsReach (rows : List CustomRow) (from : List Action) (actions : List Action) : Type 0 where
  pub ascends : IsStrictlySortedBy action_cmp actions
  pub exact : (b : Action) → IsTrue (is_among b actions) ↔ IsReachedFrom rows from b

-- the list has all that a covers, in order
pub record IsCoverage (rows : List CustomRow) (a : Action) (actions : List Action) : Type 0 where
  pub ascends : IsStrictlySortedBy action_cmp actions
  pub exact : (b : Action) → IsTrue (is_among b actions) ↔ Covers rows a b
