-- Rows.
use denote.RattleType.{RattleType}
use denote.Param.Send.{IsSend, IsSync, sendable}
use Rattle.std.specs.declared.cmp.Ord as ord
use Rattle.std.proofs.Crossing.{crosses}
use Rattle.std.proofs.MapsCrossing.{BTreeMap-send}
use Rattle.hub_serve.proofs.SentNames.{user_send, group_send, service_send, role_send, server_send, text_send, target_send, list_send, leases_send, scopes_send, scope_send, owner_send, grant_send}
use Rattle.hub_kit.specs.contracts.moment.Moment as Moment
use Rattle.hub_rows.specs.contracts.client_id.ClientId as ClientId
use Rattle.hub_rows.specs.contracts.counter.Counter as Counter
use Rattle.hub_rows.specs.contracts.keys.Recipient as Recipient
use Rattle.hub_rows.specs.contracts.keys.ShareKey as ShareKey
use Rattle.hub_rows.specs.contracts.shared_scopes.SharedScopes as SharedScopes
use Rattle.hub_rows.specs.contracts.records.User as User
use Rattle.hub_rows.specs.contracts.records.Group as Group
use Rattle.hub_rows.specs.contracts.records.Service as Service
use Rattle.hub_rows.specs.contracts.records.Role as Role
use Rattle.hub_rows.specs.contracts.records.Token as Token
use Rattle.hub_rows.specs.contracts.records.ServerRow as ServerRow
use Rattle.hub_rows.specs.contracts.records.Lease as Lease
use Rattle.hub_rows.specs.contracts.records.Share as Share
use Rattle.hub_rows.specs.contracts.records.ShareCode as ShareCode
use Rattle.hub_rows.specs.contracts.records.OAuthClient as OAuthClient
use Rattle.hub_rows.specs.contracts.records.OAuthCode as OAuthCode
use Rattle.hub_rows.specs.contracts.records.Next as Next

pub moment_send : IsSend Moment.the_row
moment_send = search sendable depth 10

pub client_send : IsSend ClientId.the_row
client_send = search (sendable, text_send) depth 10

pub counter_send : IsSend Counter.the_row
counter_send = search (sendable, text_send) depth 10

pub recipient_send : IsSend (Recipient.the_field).row
recipient_send = search (sendable, user_send, group_send) depth 12

pub share_key_send : IsSend (ShareKey.the_field).row
share_key_send = search (sendable, server_send, recipient_send) depth 12

pub shared_send : IsSend SharedScopes.the_row
shared_send = search (sendable, list_send, scope_send) depth 10

pub user_row_send : IsSend (User.the_field).row
user_row_send = search (sendable, moment_send, user_send) depth 12

pub group_row_send : IsSend (Group.the_field).row
group_row_send = search (sendable, crosses, group_send, user_send) depth 12

pub service_row_send : IsSend (Service.the_field).row
service_row_send = search (sendable, service_send) depth 12

pub role_row_send : IsSend (Role.the_field).row
role_row_send = search (sendable, crosses, list_send, scope_send, role_send, group_send, service_send, user_send) depth 12

pub token_send : IsSend (Token.the_field).row
token_send = search (sendable, list_send, text_send, server_send, owner_send, scope_send) depth 14

pub server_row_send : IsSend (ServerRow.the_field).row
server_row_send = search (sendable, moment_send, server_send) depth 12

pub lease_send : IsSend (Lease.the_field).row
lease_send = search (sendable, target_send, server_send) depth 12

pub share_send : IsSend (Share.the_field).row
share_send = search (sendable, share_key_send, shared_send) depth 12

pub share_code_send : IsSend (ShareCode.the_field).row
share_code_send = search (sendable, list_send, text_send, server_send, scope_send) depth 12

pub oauth_client_send : IsSend (OAuthClient.the_field).row
oauth_client_send = search (sendable, client_send, text_send) depth 12

pub oauth_code_send : IsSend (OAuthCode.the_field).row
oauth_code_send = search (sendable, text_send, user_send) depth 12

pub next_send : IsSend (Next.the_field).row
next_send = search (sendable, counter_send) depth 12
