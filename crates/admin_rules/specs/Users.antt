-- The calls that add, change and delete users.
use Rattle.std.specs.Prelude.{ℕ, Bool, true, false, not, List, [], ◌∷◌, map, filter, length, Option, Some, None, Ok, if◌then◌else◌}
use Rattle.std.specs.FinMap.{get, contains_key, len}
use Rattle.hub_rows.specs.declared.records.User.{User}
use Rattle.hub_rows.specs.declared.changes.RowChange.{RowChange}
use Rattle.hub_rows.specs.declared.changes.RowChange.TheVariants.{Put}
use Rattle.hub_rows.specs.declared.rows.Row.TheVariants as Row
use Rattle.hub_tables.specs.State.{State}
use Rattle.admin_rules.specs.declared.refusals.RuleRefusal.{RuleRefusal}
use Rattle.admin_rules.specs.declared.refusals.RuleRefusal.TheVariants.{Exists, LiveServers}
use Rattle.admin_rules.specs.Purges.{user_rows}
use Rattle.admin_rules.specs.Rules.{Answer, by_rules, if_so, if_full}

-- ---- adding: names that are kept are skipped

abbrev pub unkept_users : State → List (List ℕ) → List (List ℕ)
unkept_users s names = filter (λ name. not (contains_key s.users name)) names

abbrev pub new_user : Bool → ℕ → List ℕ → RowChange
new_user admin now name = Put (Row.User (record { name = name; admin = admin; created = now; last_activity = None }))

-- a rule that refuses where none of the names is new: the first exists
abbrev pub if_none_new : (new names : List (List ℕ)) → Option RuleRefusal
if_none_new [] (name ∷ rest) = Some (Exists name)
if_none_new _ _ = None

abbrev pub add_users : State → List (List ℕ) → Bool → ℕ → Answer
add_users s names admin now =
    let new : List (List ℕ) = unkept_users s names in
    by_rules (
    if_none_new new names
    ∷ if_full 1 s.limits.users (len s.users) (length new)
    ∷ [])
    (map (new_user admin now) new)

-- ---- changing

abbrev pub same_bool : Bool → Bool → Bool
same_bool true b = b
same_bool false b = not b

-- a row that is equal to the kept one isn't put
abbrev pub with_admin : Bool → Option User → List RowChange
with_admin admin None = []
with_admin admin (Some user) = if same_bool user.admin admin then [] else Put (Row.User (record user { admin = admin })) ∷ []

abbrev pub set_admin : State → List ℕ → Bool → Answer
set_admin s name admin = Ok (with_admin admin (get s.users name))

-- ---- deleting: `live` tells whether a server of the user is live

abbrev pub delete_user : State → List ℕ → Bool → Answer
delete_user s name live =
    by_rules (if_so live LiveServers ∷ []) (if contains_key s.users name then user_rows s name else [])
