-- The texts of rows, and what a change of rows does to a keeper's rows.
use Rattle.std.specs.Prelude.{ℕ, List, decimal, ⊤}
use Rattle.hub_kit.specs.Names.{IsName}
use Rattle.hub_kit.specs.Targets.{IsTarget}
use Rattle.serde_json.specs.Data.{Data}
use Rattle.serde_json.specs.Written.{compact_text}
use Rattle.hub_rows.specs.RowKeys.{key_of}
use Rattle.hub_rows.specs.declared.changes.RowChange.{RowChange}
use Rattle.hub_rows.specs.declared.changes.RowChange.TheVariants.{Put, Remove}
use Rattle.hub_rows.specs.declared.rows.Row.{Row}
use Rattle.hub_rows.specs.declared.rows.Row.TheVariants as Row
use Rattle.hub_rows.specs.declared.rows.RowKey.{RowKey}
use Rattle.hub_rows.specs.declared.rows.RowKey.TheVariants as RowKey
use Rattle.keeper.specs.declared.keeper.Item.{Item}
use Rattle.keeper.specs.declared.keeper.Item.TheVariants as Item
use Rattle.record_texts.specs.Fields.{IsWord}
use Rattle.key_texts.specs.KeyTexts.{server_text, share_text, IsServer, IsShareKey}
use Rattle.record_texts.specs.People.{user_object, group_object, service_object, role_object, IsUser, IsGroup, IsService, IsRole}
use Rattle.record_texts.specs.Rows.{row_with}
use Rattle.record_texts.specs.Servers.{server_object, lease_object, share_object, next_object, IsServerRow, IsLease, IsShare, IsNext}
use Rattle.record_texts.specs.Tokens.{token_object, code_object, client_object, grant_code_object, IsToken, IsCode, IsClient, IsGrantCode}

-- the kinds are numbered from 1
abbrev pub kind_of : RowKey → ℕ
kind_of (RowKey.User name) = 1
kind_of (RowKey.Group name) = 2
kind_of (RowKey.Service name) = 3
kind_of (RowKey.Role name) = 4
kind_of (RowKey.Token id) = 5
kind_of (RowKey.ServerRow key) = 6
kind_of (RowKey.Lease target) = 7
kind_of (RowKey.Share key) = 8
kind_of (RowKey.ShareCode id) = 9
kind_of (RowKey.OAuthClient id) = 10
kind_of (RowKey.OAuthCode hash) = 11
kind_of (RowKey.Next name) = 12

abbrev pub key_text : RowKey → List ℕ
key_text (RowKey.User name) = name
key_text (RowKey.Group name) = name
key_text (RowKey.Service name) = name
key_text (RowKey.Role name) = name
key_text (RowKey.Token id) = decimal id
key_text (RowKey.ServerRow key) = server_text key
key_text (RowKey.Lease target) = target
key_text (RowKey.Share key) = share_text key
key_text (RowKey.ShareCode id) = decimal id
key_text (RowKey.OAuthClient id) = id
key_text (RowKey.OAuthCode hash) = hash
key_text (RowKey.Next name) = name

abbrev pub object_of : Row → Data
object_of (Row.User row) = user_object row
object_of (Row.Group row) = group_object row
object_of (Row.Service row) = service_object row
object_of (Row.Role row) = role_object row
object_of (Row.Token row) = token_object row
object_of (Row.ServerRow row) = server_object row
object_of (Row.Lease row) = lease_object row
object_of (Row.Share row) = share_object row
object_of (Row.ShareCode row) = code_object row
object_of (Row.OAuthClient row) = client_object row
object_of (Row.OAuthCode row) = grant_code_object row
object_of (Row.Next row) = next_object row

abbrev pub row_text : Row → List ℕ
row_text row = compact_text (object_of row)

-- a put of the row's text under its kind and the text of its key, or a removal there
abbrev pub item_of : RowChange → Item
item_of (Put row) = Item.Put (row_with (kind_of (key_of row)) (key_text (key_of row)) (object_of row))
item_of (Remove key) = Item.Delete (kind_of key) (key_text key)

-- ---- what is true of each row, and of each key

abbrev pub IsRow : Row → Type 0
IsRow (Row.User row) = IsUser row
IsRow (Row.Group row) = IsGroup row
IsRow (Row.Service row) = IsService row
IsRow (Row.Role row) = IsRole row
IsRow (Row.Token row) = IsToken row
IsRow (Row.ServerRow row) = IsServerRow row
IsRow (Row.Lease row) = IsLease row
IsRow (Row.Share row) = IsShare row
IsRow (Row.ShareCode row) = IsCode row
IsRow (Row.OAuthClient row) = IsClient row
IsRow (Row.OAuthCode row) = IsGrantCode row
IsRow (Row.Next row) = IsNext row

abbrev pub IsKey : RowKey → Type 0
IsKey (RowKey.User name) = IsName name
IsKey (RowKey.Group name) = IsName name
IsKey (RowKey.Service name) = IsName name
IsKey (RowKey.Role name) = IsName name
IsKey (RowKey.Token id) = IsWord id
IsKey (RowKey.ServerRow key) = IsServer key
IsKey (RowKey.Lease target) = IsTarget target
IsKey (RowKey.Share key) = IsShareKey key
IsKey (RowKey.ShareCode id) = IsWord id
IsKey (RowKey.OAuthClient id) = ⊤
IsKey (RowKey.OAuthCode hash) = ⊤
IsKey (RowKey.Next name) = ⊤

abbrev pub IsValid : RowChange → Type 0
IsValid (Put row) = IsRow row
IsValid (Remove key) = IsKey key
