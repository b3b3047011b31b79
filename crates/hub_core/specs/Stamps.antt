-- The stamp of the kept rights: how often rights have changed.
use Rattle.std.specs.Prelude.{ℕ, ◌+◌, Bool, true, false, not, List, Option, Some, None, if◌then◌else◌}
use Rattle.std.specs.List.{list_any}
use Rattle.std.specs.FinMap.{get}
use Rattle.admin_rules.specs.Users.{same_bool}
use Rattle.hub_rows.specs.declared.changes.RowChange.{RowChange}
use Rattle.hub_rows.specs.declared.changes.RowChange.TheVariants.{Put, Remove}
use Rattle.hub_rows.specs.declared.rows.Row.TheVariants as Row
use Rattle.hub_rows.specs.declared.rows.RowKey.TheVariants as RowKey
use Rattle.hub_rows.specs.declared.records.User.{User}
use Rattle.hub_tables.specs.Lookups.{is_admin}
use Rattle.hub_tables.specs.State.{State}
use Rattle.hub_machine.specs.Apply.{rows_of}
use Rattle.hub_machine.specs.declared.change.Change.{Change}

-- the user is kept, and is an admin or none as this says
abbrev pub is_kept_as : (admin : Bool) → Option User → Bool
is_kept_as admin None = false
is_kept_as admin (Some user) = same_bool user.admin admin

-- a group, service, role or share is put or removed, or a user is added, removed, or made an admin or none
abbrev pub touches_rights : State → RowChange → Bool
touches_rights t (Put (Row.User row)) = not (is_kept_as row.admin (get t.users row.name))
touches_rights t (Put (Row.Group row)) = true
touches_rights t (Put (Row.Service row)) = true
touches_rights t (Put (Row.Role row)) = true
touches_rights t (Put (Row.Share row)) = true
touches_rights t (Remove (RowKey.User name)) = true
touches_rights t (Remove (RowKey.Group name)) = true
touches_rights t (Remove (RowKey.Service name)) = true
touches_rights t (Remove (RowKey.Role name)) = true
touches_rights t (Remove (RowKey.Share key)) = true
touches_rights t _ = false

-- a change of these rows changes what somebody may do, or might
abbrev pub changes_rights : State → List RowChange → Bool
changes_rights t rows = list_any (touches_rights t) rows

-- such a group, service, role or share is put or removed, or somebody becomes an admin or is one no longer (who isn't kept is none)
abbrev pub touches_sources : State → RowChange → Bool
touches_sources t (Put (Row.User row)) = not (same_bool (is_admin t row.name) row.admin)
touches_sources t (Remove (RowKey.User name)) = is_admin t name
touches_sources t r = touches_rights t r

-- a change of these rows changes what rights come from
abbrev pub changes_sources : State → List RowChange → Bool
changes_sources t rows = list_any (touches_sources t) rows

-- a step of a server's life is none, nor are the rows of an end
abbrev pub is_of_rights : State → Change → Bool
is_of_rights t c = changes_rights t (rows_of c)

-- one more with each change of rights
abbrev pub stamp_after : State → Option Change → ℕ → ℕ
stamp_after t None stamp = stamp
stamp_after t (Some c) stamp = if is_of_rights t c then stamp + 1 else stamp

-- the stamp that the last change of a source of rights left
abbrev pub since_after : State → Option Change → (stamp since : ℕ) → ℕ
since_after t None stamp since = since
since_after t (Some c) stamp since = if changes_sources t (rows_of c) then stamp + 1 else since
