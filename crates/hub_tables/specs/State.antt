-- What the tables hold: for each kind of rows a finite map from their keys to the rows, and the limits and the custom scopes of the hub.
use Rattle.std.specs.Prelude.{List}
use Rattle.std.specs.Ordering.{nat_cmp}
use Rattle.std.specs.FinMap.{FinMap}
use Rattle.hub_kit.specs.KeyOrder.{name_cmp, key_cmp}
use Rattle.scope_names.specs.declared.custom.CustomRow.{CustomRow}
use Rattle.hub_rows.specs.declared.limits.Limits.{Limits}
use Rattle.hub_rows.specs.declared.records.User.{User}
use Rattle.hub_rows.specs.declared.records.Group.{Group}
use Rattle.hub_rows.specs.declared.records.Service.{Service}
use Rattle.hub_rows.specs.declared.records.Role.{Role}
use Rattle.hub_rows.specs.declared.records.Token.{Token}
use Rattle.hub_rows.specs.declared.records.ServerRow.{ServerRow}
use Rattle.hub_rows.specs.declared.records.Lease.{Lease}
use Rattle.hub_rows.specs.declared.records.Share.{Share}
use Rattle.hub_rows.specs.declared.records.ShareCode.{ShareCode}
use Rattle.hub_rows.specs.declared.records.OAuthClient.{OAuthClient}
use Rattle.hub_rows.specs.declared.records.OAuthCode.{OAuthCode}
use Rattle.hub_rows.specs.declared.records.Next.{Next}
use Rattle.hub_rows.specs.ShareOrder.{share_cmp}

pub record State : Type 0 where
  -- under names, in the order of their bytes
  pub users : FinMap name_cmp User
  pub groups : FinMap name_cmp Group
  pub services : FinMap name_cmp Service
  pub roles : FinMap name_cmp Role
  -- under ids
  pub tokens : FinMap nat_cmp Token
  -- under users and servers
  pub servers : FinMap key_cmp ServerRow
  -- under targets
  pub leases : FinMap name_cmp Lease
  -- under servers and recipients
  pub shares : FinMap share_cmp Share
  -- under ids
  pub codes : FinMap nat_cmp ShareCode
  -- under texts: the client, the hash of the code, the name of the number
  pub clients : FinMap name_cmp OAuthClient
  pub grant_codes : FinMap name_cmp OAuthCode
  pub nexts : FinMap name_cmp Next
  pub limits : Limits
  -- the declared custom scopes
  pub scopes : List CustomRow
