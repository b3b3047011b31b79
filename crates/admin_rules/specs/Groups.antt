-- The calls that add, change and delete groups.
use Rattle.std.specs.Prelude.{ℕ, Bool, List, [], ◌∷◌, Option, Some, None, Ok, if◌then◌else◌, option_map}
use Rattle.std.specs.Cmp.Lexicographic.{pointwise}
use Rattle.std.specs.FinMap.{get, contains_key, len}
use Rattle.hub_kit.specs.KeyOrder.{name_cmp}
use Rattle.keyed_rows.specs.Sorted.{with_keys, without_keys, in_order}
use Rattle.scope_filters.specs.Contexts.{same}
use Rattle.hub_rows.specs.declared.records.Group.{Group}
use Rattle.hub_rows.specs.declared.changes.RowChange.{RowChange}
use Rattle.hub_rows.specs.declared.changes.RowChange.TheVariants.{Put}
use Rattle.hub_rows.specs.declared.rows.Row.TheVariants as Row
use Rattle.hub_tables.specs.State.{State}
use Rattle.admin_rules.specs.declared.refusals.RuleRefusal.{RuleRefusal}
use Rattle.admin_rules.specs.declared.refusals.RuleRefusal.TheVariants.{Exists, UnknownUser}
use Rattle.admin_rules.specs.Purges.{group_rows}
use Rattle.admin_rules.specs.Rules.{Answer, by_rules, if_so, if_full, first_unkept}

-- a rule that refuses where a user isn't kept, and names the first of them in the order given
abbrev pub if_unknown_user : State → List (List ℕ) → Option RuleRefusal
if_unknown_user s users = option_map UnknownUser (first_unkept s.users users)

-- ---- adding

abbrev pub add_group : State → List ℕ → List (List ℕ) → Answer
add_group s group users =
    by_rules (
    if_so (contains_key s.groups group) (Exists group)
    ∷ if_unknown_user s users
    ∷ if_full 2 s.limits.groups (len s.groups) 1
    ∷ [])
    (Put (Row.Group (record { name = group; users = in_order name_cmp users })) ∷ [])

-- ---- joining and leaving

abbrev pub same_names : List (List ℕ) → List (List ℕ) → Bool
same_names = pointwise same

-- a group with other members; a row that is equal to the kept one isn't put
abbrev pub with_members : (List (List ℕ) → List (List ℕ)) → Option Group → List RowChange
with_members change None = []
with_members change (Some group) =
    if same_names (change group.users) group.users then [] else Put (Row.Group (record group { users = change group.users })) ∷ []

abbrev pub join_group : State → List ℕ → List (List ℕ) → Answer
join_group s group users = by_rules (if_unknown_user s users ∷ []) (with_members (with_keys name_cmp users) (get s.groups group))

abbrev pub leave_group : State → List ℕ → List (List ℕ) → Answer
leave_group s group users = by_rules (if_unknown_user s users ∷ []) (with_members (without_keys name_cmp users) (get s.groups group))

-- ---- deleting

abbrev pub delete_group : State → List ℕ → Answer
delete_group s group = Ok (if contains_key s.groups group then group_rows s group else [])
