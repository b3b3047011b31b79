-- The calls that tell the activity of a user and its servers, and that delete a server.
use Rattle.std.specs.Prelude.{ℕ, ◌+◌, min, Bool, true, not, nat_le, List, [], ◌∷◌, ◌++◌, Option, Some, None, option_map, Ok, if◌then◌else◌}
use Rattle.std.specs.List.{find, flat_map}
use Rattle.std.specs.FinMap.{get, contains_key}
use Rattle.hub_kit.specs.declared.names.ServerKey.{ServerKey}
use Rattle.hub_rows.specs.declared.records.User.{User}
use Rattle.hub_rows.specs.declared.records.ServerRow.{ServerRow}
use Rattle.hub_rows.specs.declared.changes.RowChange.{RowChange}
use Rattle.hub_rows.specs.declared.changes.RowChange.TheVariants.{Put}
use Rattle.hub_rows.specs.declared.rows.Row.TheVariants as Row
use Rattle.hub_tables.specs.State.{State}
use Rattle.admin_rules.specs.declared.refusals.RuleRefusal.{RuleRefusal}
use Rattle.admin_rules.specs.declared.refusals.RuleRefusal.TheVariants.{UnknownServer}
use Rattle.admin_rules.specs.Purges.{server_rows}
use Rattle.admin_rules.specs.Rules.{Answer, by_rules}

-- ---- activity

-- a moment changes the kept one where that is null or at least 30 seconds earlier
abbrev pub is_newer : (kept : Option ℕ) → ℕ → Bool
is_newer None at = true
is_newer (Some kept) at = nat_le (kept + 30) at

-- the moment that takes the place of the kept one, if one does; a moment that is told past now counts as now
abbrev pub newer : (now : ℕ) → (kept told : Option ℕ) → Option ℕ
newer now kept None = None
newer now kept (Some at) = if is_newer kept (min at now) then Some (min at now) else None

abbrev pub user_seen : User → Option ℕ → List RowChange
user_seen user None = []
user_seen user (Some at) = Put (Row.User (record user { last_activity = Some at })) ∷ []

abbrev pub user_activity : ℕ → Option ℕ → Option User → List RowChange
user_activity now told None = []
user_activity now told (Some user) = user_seen user (newer now user.last_activity told)

abbrev pub server_seen : ServerRow → Option ℕ → List RowChange
server_seen row None = []
server_seen row (Some at) = Put (Row.ServerRow (record row { last_activity = Some at })) ∷ []

abbrev pub server_activity : ℕ → Option ℕ → Option ServerRow → List RowChange
server_activity now told None = []
server_activity now told (Some row) = server_seen row (newer now row.last_activity told)

abbrev pub server_of : (user server : List ℕ) → ServerKey
server_of user server = record { user = user; server = server }

-- what is told of the user's servers: of each its name, and a moment if one is told
abbrev pub Told : Type 0
Told = List (List ℕ × Option ℕ)

abbrev pub servers_activity : State → ℕ → List ℕ → Told → List RowChange
servers_activity s now user told = flat_map (λ x. server_activity now x.1 (get s.servers (server_of user x.0))) told

-- a rule that refuses where a server's row isn't kept, and names the first of them in the order given
abbrev pub if_unknown_server : State → List ℕ → Told → Option RuleRefusal
if_unknown_server s user told =
    option_map (λ x. UnknownServer x.0) (find (λ x. not (contains_key s.servers (server_of user x.0))) told)

abbrev pub note_activity : State → List ℕ → (now : ℕ) → Option ℕ → Told → Answer
note_activity s user now told servers =
    by_rules (if_unknown_server s user servers ∷ []) (user_activity now told (get s.users user) ++ servers_activity s now user servers)

-- ---- deleting

abbrev pub delete_server : State → ServerKey → Answer
delete_server s server = Ok (if contains_key s.servers server then server_rows s server else [])
