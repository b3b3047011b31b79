-- Scopes whose custom names are declared.
use Rattle.std.specs.Prelude.{Bool, true, not, List, Option}
use Rattle.std.specs.List.{find}
use Rattle.scope_names.specs.Refusals.{is_declared}
use Rattle.scope_names.specs.declared.custom.CustomRow.{CustomRow}
use Rattle.scope_names.specs.declared.action.Action.{Action}
use Rattle.scope_names.specs.declared.action.Action.TheVariants.{Custom}
use Rattle.scope_filters.specs.declared.scope.RawScope.{RawScope}
use Rattle.scope_filters.specs.declared.scope.RawScope.TheVariants.{Plain, SelfScope, Inherit}

-- The action is of the fixed table, or custom and declared
abbrev is_known_action : List CustomRow → Action → Bool
is_known_action customs (Custom name) = is_declared name customs
is_known_action customs _ = true

-- The action of the scope is known; `self` and `inherit` have none
abbrev pub is_known_scope : List CustomRow → RawScope → Bool
is_known_scope customs (Plain action filter) = is_known_action customs action
is_known_scope customs SelfScope = true
is_known_scope customs Inherit = true

-- the first scope whose custom name isn't declared
abbrev pub unknown_scope : List CustomRow → List RawScope → Option RawScope
unknown_scope customs scopes = find (λ raw. not (is_known_scope customs raw)) scopes
