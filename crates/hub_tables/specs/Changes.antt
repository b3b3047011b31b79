-- What a change of a row makes of the tables, and when it may be done.
use Rattle.std.specs.Prelude.{◌≡◌, Bool, true, false, not, List, [], ◌∷◌, Option, Some, None, option_map}
use Rattle.std.specs.Option.{is_some}
use Rattle.std.specs.List.{filter}
use Rattle.std.specs.FinMap.{get, insert, remove}
use Rattle.hub_rows.specs.RowKeys.{is_put, key_in}
use Rattle.hub_rows.specs.declared.changes.RowChange.{RowChange}
use Rattle.hub_rows.specs.declared.changes.RowChange.TheVariants.{Put, Remove}
use Rattle.hub_rows.specs.declared.rows.Row.{Row}
use Rattle.hub_rows.specs.declared.rows.Row.TheVariants as Row
use Rattle.hub_rows.specs.declared.rows.RowKey.{RowKey}
use Rattle.hub_rows.specs.declared.rows.RowKey.TheVariants as RowKey
use Rattle.hub_tables.specs.Hashes.{FitsCode, FitsToken}
use Rattle.hub_tables.specs.State.{State}

-- the row that stands under a key
abbrev pub row_at : State → RowKey → Option Row
row_at s (RowKey.User name) = option_map Row.User (get s.users name)
row_at s (RowKey.Group name) = option_map Row.Group (get s.groups name)
row_at s (RowKey.Service name) = option_map Row.Service (get s.services name)
row_at s (RowKey.Role name) = option_map Row.Role (get s.roles name)
row_at s (RowKey.Token id) = option_map Row.Token (get s.tokens id)
row_at s (RowKey.ServerRow key) = option_map Row.ServerRow (get s.servers key)
row_at s (RowKey.Lease target) = option_map Row.Lease (get s.leases target)
row_at s (RowKey.Share key) = option_map Row.Share (get s.shares key)
row_at s (RowKey.ShareCode id) = option_map Row.ShareCode (get s.codes id)
row_at s (RowKey.OAuthClient id) = option_map Row.OAuthClient (get s.clients id)
row_at s (RowKey.OAuthCode hash) = option_map Row.OAuthCode (get s.grant_codes hash)
row_at s (RowKey.Next name) = option_map Row.Next (get s.nexts name)

-- a row stands under its key, and all else stays
abbrev pub with_row : Row → State → State
with_row (Row.User row) s = record s { users = insert s.users row.name row }
with_row (Row.Group row) s = record s { groups = insert s.groups row.name row }
with_row (Row.Service row) s = record s { services = insert s.services row.name row }
with_row (Row.Role row) s = record s { roles = insert s.roles row.name row }
with_row (Row.Token row) s = record s { tokens = insert s.tokens row.id row }
with_row (Row.ServerRow row) s = record s { servers = insert s.servers row.key row }
with_row (Row.Lease row) s = record s { leases = insert s.leases row.target row }
with_row (Row.Share row) s = record s { shares = insert s.shares row.key row }
with_row (Row.ShareCode row) s = record s { codes = insert s.codes row.id row }
with_row (Row.OAuthClient row) s = record s { clients = insert s.clients row.id row }
with_row (Row.OAuthCode row) s = record s { grant_codes = insert s.grant_codes row.hash row }
with_row (Row.Next row) s = record s { nexts = insert s.nexts row.name row }

-- no row stands under a key, and all else stays
abbrev pub without_row : RowKey → State → State
without_row (RowKey.User name) s = record s { users = remove s.users name }
without_row (RowKey.Group name) s = record s { groups = remove s.groups name }
without_row (RowKey.Service name) s = record s { services = remove s.services name }
without_row (RowKey.Role name) s = record s { roles = remove s.roles name }
without_row (RowKey.Token id) s = record s { tokens = remove s.tokens id }
without_row (RowKey.ServerRow key) s = record s { servers = remove s.servers key }
without_row (RowKey.Lease target) s = record s { leases = remove s.leases target }
without_row (RowKey.Share key) s = record s { shares = remove s.shares key }
without_row (RowKey.ShareCode id) s = record s { codes = remove s.codes id }
without_row (RowKey.OAuthClient id) s = record s { clients = remove s.clients id }
without_row (RowKey.OAuthCode hash) s = record s { grant_codes = remove s.grant_codes hash }
without_row (RowKey.Next name) s = record s { nexts = remove s.nexts name }

abbrev pub row_done : RowChange → State → State
row_done (Put row) s = with_row row s
row_done (Remove key) s = without_row key s

abbrev pub rows_done : List RowChange → State → State
rows_done [] s = s
rows_done (r ∷ rest) s = rows_done rest (row_done r s)

abbrev pub puts_of : List RowChange → List RowChange
puts_of rows = filter is_put rows

abbrev pub removals_of : List RowChange → List RowChange
removals_of rows = filter (λ r. not (is_put r)) rows

-- whether the row of the change's key is kept
abbrev pub has_row : State → RowChange → Bool
has_row s change = is_some (row_at s (key_in change))

-- ---- which puts may be done

-- a row with a hash may stand under its id, and any other row may stand under its key
abbrev pub FitsKey : State → Row → Type 0
FitsKey s (Row.Token row) = FitsToken s.tokens row
FitsKey s (Row.ShareCode row) = FitsCode s.codes row
FitsKey s _ = Unit {0}

abbrev pub FitsRow : State → RowChange → Type 0
FitsRow s (Put row) = FitsKey s row
FitsRow s (Remove key) = Unit {0}

-- each put of the list fits where the puts before it left the tables
abbrev pub FitAll : List RowChange → State → Type 0
FitAll [] s = Unit {0}
FitAll (Put row ∷ rest) s = FitsKey s row × FitAll rest (with_row row s)
FitAll (Remove key ∷ rest) s = FitAll rest s

-- the puts of rows that are found by a hash: all others fit anywhere
abbrev pub puts_hashed : RowChange → Bool
puts_hashed (Put (Row.Token row)) = true
puts_hashed (Put (Row.ShareCode row)) = true
puts_hashed _ = false

-- ---- the way back

-- a put of the row that is kept under a key, or its removal where none is kept
abbrev pub put_or_remove : RowKey → Option Row → RowChange
put_or_remove key None = Remove key
put_or_remove key (Some row) = Put row

-- what sets the row of a change's key as it is
abbrev pub way_back : State → RowChange → RowChange
way_back s change = put_or_remove (key_in change) (row_at s (key_in change))
