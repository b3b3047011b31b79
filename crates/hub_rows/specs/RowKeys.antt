-- What each row stands under, and what a change of rows is.
use Rattle.std.specs.Prelude.{Bool, true, false}
use Rattle.hub_rows.specs.declared.rows.Row.{Row}
use Rattle.hub_rows.specs.declared.rows.Row.TheVariants as Row
use Rattle.hub_rows.specs.declared.rows.RowKey.{RowKey}
use Rattle.hub_rows.specs.declared.rows.RowKey.TheVariants as RowKey
use Rattle.hub_rows.specs.declared.changes.RowChange.{RowChange}
use Rattle.hub_rows.specs.declared.changes.RowChange.TheVariants.{Put, Remove}

-- What a row stands under, with its kind
abbrev pub key_of : Row → RowKey
key_of (Row.User row) = RowKey.User row.name
key_of (Row.Group row) = RowKey.Group row.name
key_of (Row.Service row) = RowKey.Service row.name
key_of (Row.Role row) = RowKey.Role row.name
key_of (Row.Token row) = RowKey.Token row.id
key_of (Row.ServerRow row) = RowKey.ServerRow row.key
key_of (Row.Lease row) = RowKey.Lease row.target
key_of (Row.Share row) = RowKey.Share row.key
key_of (Row.ShareCode row) = RowKey.ShareCode row.id
key_of (Row.OAuthClient row) = RowKey.OAuthClient row.id
key_of (Row.OAuthCode row) = RowKey.OAuthCode row.hash
key_of (Row.Next row) = RowKey.Next row.name

-- The change puts a row, and doesn't take one away
abbrev pub is_put : RowChange → Bool
is_put (Put row) = true
is_put (Remove key) = false

-- What is changed: the key of the row that is put, or of the one that goes
abbrev pub key_in : RowChange → RowKey
key_in (Put row) = key_of row
key_in (Remove key) = key
