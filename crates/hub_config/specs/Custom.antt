-- Custom scopes: which are declared.
use Rattle.std.specs.Prelude.{ℕ, ◌+◌, Bool, true, List, [], ◌∷◌, Option, Some, None, option_map, if◌then◌else◌}
use Rattle.scope_names.specs.Refusals.{is_declared}
use Rattle.scope_names.specs.declared.action.Action.TheVariants.{Custom}
use Rattle.scope_names.specs.declared.action.Action.{Action}
use Rattle.scope_names.specs.declared.custom.CustomRow.{CustomRow}
use Rattle.scope_filters.specs.declared.scope.RawScope.{RawScope}
use Rattle.scope_filters.specs.declared.scope.RawScope.TheVariants.{Plain}
use Rattle.hub_rows.specs.declared.records.Role.{Role}
use Rattle.hub_opening.specs.declared.config.ConfigToken.{ConfigToken}
use Rattle.hub_opening.specs.declared.config.HubConfig.{HubConfig}
use Rattle.hub_config.specs.declared.config_key.ConfigKey.{ConfigKey}
use Rattle.hub_config.specs.declared.config_key.ConfigKey.TheVariants as its
use Rattle.hub_config.specs.declared.fault.Fault.{Fault}
use Rattle.hub_config.specs.declared.fault.Rule.TheVariants.{Undeclared}
use Rattle.hub_config.specs.Faults.{broken, in_entry, under}

abbrev pub or_else : Option Fault → Option Fault → Option Fault
or_else (Some fault) other = Some fault
or_else None other = other

abbrev pub action_is_declared : List CustomRow → Action → Bool
action_is_declared rows (Custom name) = is_declared name rows
action_is_declared rows _ = true

abbrev pub scope_is_declared : List CustomRow → RawScope → Bool
scope_is_declared rows (Plain action filter) = action_is_declared rows action
scope_is_declared rows _ = true

-- the first of the items that has a fault; they are counted from n
abbrev pub found_at : ℕ → Option Fault → Option Fault → Option Fault
found_at n (Some fault) rest = Some (in_entry n fault)
found_at n None rest = rest

abbrev pub first_fault : {X : Type 0} → (X → Option Fault) → ℕ → List X → Option Fault
first_fault fault n [] = None
first_fault fault n (x ∷ xs) = found_at n (fault x) (first_fault fault (n + 1) xs)

abbrev pub under_key : ConfigKey → Option Fault → Option Fault
under_key key fault = option_map (under key) fault

abbrev pub scope_fault : List CustomRow → RawScope → Option Fault
scope_fault rows scope = if scope_is_declared rows scope then None else Some (broken Undeclared)

-- the first of these scopes that isn't declared
abbrev pub scopes_fault : List CustomRow → List RawScope → Option Fault
scopes_fault rows scopes = under_key its.Scopes (first_fault (scope_fault rows) 0 scopes)

abbrev pub roles_fault : List CustomRow → List Role → Option Fault
roles_fault rows roles = under_key its.Roles (first_fault (λ role. scopes_fault rows role.scopes) 0 roles)

abbrev pub tokens_fault : List CustomRow → List ConfigToken → Option Fault
tokens_fault rows tokens = under_key its.Tokens (first_fault (λ token. scopes_fault rows token.scopes) 0 tokens)

-- the first custom scope of a configured role, or else of a token, that isn't declared
abbrev pub undeclared : List CustomRow → HubConfig → Option Fault
undeclared rows c = or_else (roles_fault rows c.roles) (tokens_fault rows c.tokens)
