-- The calls that put and delete roles.
use Rattle.std.specs.Prelude.{ℕ, Bool, ◌||◌, ◌&&◌, List, [], ◌∷◌, codes, Option, Some, None, if◌then◌else◌, option_map}
use Rattle.std.specs.Option.{option_or}
use Rattle.std.specs.Cmp.Lexicographic.{pointwise}
use Rattle.std.specs.FinMap.{get, contains_key, len}
use Rattle.scope_names.specs.declared.custom.CustomRow.{CustomRow}
use Rattle.scope_filters.specs.Contexts.{same}
use Rattle.scope_filters.specs.Known.{unknown_scope}
use Rattle.scope_filters.specs.Scopes.{scope_text}
use Rattle.scope_filters.specs.declared.scope.RawScope.{RawScope}
use Rattle.scope_filters.specs.contracts.scope.RawScopePartialEq.TheImpl as scope
use Rattle.hub_rows.specs.declared.records.Role.{Role}
use Rattle.hub_rows.specs.declared.changes.RowChange.{RowChange}
use Rattle.hub_rows.specs.declared.changes.RowChange.TheVariants.{Put, Remove}
use Rattle.hub_rows.specs.declared.rows.Row.TheVariants as Row
use Rattle.hub_rows.specs.declared.rows.RowKey.TheVariants as RowKey
use Rattle.hub_tables.specs.State.{State}
use Rattle.admin_rules.specs.declared.refusals.RuleRefusal.{RuleRefusal}
use Rattle.admin_rules.specs.declared.refusals.RuleRefusal.TheVariants.{FixedRole, UnknownScope, UnknownHolder}
use Rattle.admin_rules.specs.Groups.{same_names}
use Rattle.admin_rules.specs.Rules.{Answer, by_rules, if_so, if_full, first_unkept}

-- the roles that every hub has, which nobody may put or delete
abbrev pub is_fixed_role : List ℕ → Bool
is_fixed_role role = same role (codes "user") || same role (codes "admin")

-- ---- scopes that aren't declared

-- a rule that refuses where there is one, and gives its text
abbrev pub if_unknown_scope : List CustomRow → List RawScope → Option RuleRefusal
if_unknown_scope customs scopes = option_map (λ raw. UnknownScope (scope_text raw)) (unknown_scope customs scopes)

-- ---- putting

-- the first name that isn't kept: of users, then of groups, then of services, each in the order of names
abbrev pub unknown_holder : State → Role → Option (List ℕ)
unknown_holder s role =
    option_or (first_unkept s.users role.users) (option_or (first_unkept s.groups role.groups) (first_unkept s.services role.services))

abbrev pub if_unknown_holder : State → Role → Option RuleRefusal
if_unknown_holder s role = option_map UnknownHolder (unknown_holder s role)

-- the same scopes in the same order, and the same holders
abbrev pub same_role : Role → Role → Bool
same_role a b =
    same_names a.users b.users && same_names a.groups b.groups && same_names a.services b.services && pointwise scope.ghosts.eq a.scopes
    b.scopes

-- a role that is equal to the kept one isn't put
abbrev pub role_put : Role → Option Role → List RowChange
role_put role None = Put (Row.Role role) ∷ []
role_put role (Some kept) = if same_role role kept then [] else Put (Row.Role role) ∷ []

abbrev pub put_role : State → Role → Answer
put_role s role =
    by_rules (
    if_so (is_fixed_role role.name) FixedRole
    ∷ if_unknown_scope s.scopes role.scopes
    ∷ if_unknown_holder s role
    ∷ if_full 4 s.limits.roles (len s.roles) (if contains_key s.roles role.name then 0 else 1)
    ∷ [])
    (role_put role (get s.roles role.name))

-- ---- deleting

abbrev pub delete_role : State → List ℕ → Answer
delete_role s role =
    by_rules (if_so (is_fixed_role role) FixedRole ∷ []) (if contains_key s.roles role then Remove (RowKey.Role role) ∷ [] else [])
