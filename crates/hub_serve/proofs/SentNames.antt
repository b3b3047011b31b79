-- What a book consists of may go to another thread.
use denote.RattleType.{RattleType}
use Rattle.std.proofs.Common.{ℕ}
use denote.Param.Send.{IsSend, IsSync, sendable}
use Rattle.std.specs.contracts.string.String as String
use Rattle.std.specs.contracts.alloc.Global as Heap
use Rattle.std.specs.contracts.impls.GlobalAllocator.TheImpl.{ghosts}
use Rattle.std.proofs.Crossing.{crosses}
use Rattle.std.proofs.MapsCrossing.{BTreeMap-send}
use Rattle.hub_kit.specs.contracts.text.Text as Text
use Rattle.hub_kit.specs.contracts.list.List as List
use Rattle.hub_kit.specs.contracts.target.Target as Target
use Rattle.hub_kit.specs.contracts.names.UserName as UserName
use Rattle.hub_kit.specs.contracts.names.GroupName as GroupName
use Rattle.hub_kit.specs.contracts.names.ServiceName as ServiceName
use Rattle.hub_kit.specs.contracts.names.RoleName as RoleName
use Rattle.hub_kit.specs.contracts.names.ServerName as ServerName
use Rattle.hub_kit.specs.contracts.names.ServerKey as ServerKey
use Rattle.server_life.specs.contracts.pool.Pool as Pool
use Rattle.server_life.specs.contracts.leases.Leases as Leases
use Rattle.server_life.specs.contracts.leases.Held as Held
use Rattle.scope_names.specs.contracts.custom.CustomName as CustomName
use Rattle.scope_names.specs.contracts.custom.CustomRow as CustomRow
use Rattle.scope_names.specs.contracts.action.Action as Action
use Rattle.scope_names.specs.contracts.table.ScopeTable as ScopeTable
use Rattle.scope_filters.specs.contracts.scope.RawScope as RawScope
use Rattle.scope_filters.specs.contracts.scope.RawFilter as RawFilter
use Rattle.scope_filters.specs.contracts.filter.Filter as Filter
use Rattle.scope_filters.specs.contracts.grant.Filters as Filters
use Rattle.scope_filters.specs.contracts.grant.Grant as Grant
use Rattle.scope_filters.specs.contracts.holder.Owner as Owner

pub user_send : IsSend UserName.the_row
user_send = search sendable depth 10

pub group_send : IsSend GroupName.the_row
group_send = search sendable depth 10

pub service_send : IsSend ServiceName.the_row
service_send = search sendable depth 10

pub role_send : IsSend RoleName.the_row
role_send = search sendable depth 10

pub name_send : IsSend ServerName.the_row
name_send = search sendable depth 10

pub server_send : IsSend (ServerKey.the_field).row
server_send = search (sendable, user_send, name_send) depth 10

pub string_send : IsSend (String.the_field Heap.the_row ghosts).row
string_send = search (sendable, crosses) depth 12

pub text_send : IsSend Text.the_row
text_send = search (sendable, string_send) depth 10

pub target_send : IsSend Target.the_row
target_send = search (sendable, text_send) depth 10

pub list_send : (T : RattleType) → IsSend T → IsSend (List.the_field T).row
list_send T s = search (sendable, crosses) depth 10

pub pool_send : IsSend Pool.the_row
pool_send = search (sendable, list_send, target_send) depth 10

pub held_send : IsSend (Held.the_field).row
held_send = search (sendable, server_send) depth 10

pub leases_send : IsSend Leases.the_row
leases_send = search (sendable, crosses, pool_send, held_send, server_send) depth 16

pub custom_name_send : IsSend CustomName.the_row
custom_name_send = search sendable depth 10

pub action_send : IsSend (Action.the_field).row
action_send = search (sendable, custom_name_send) depth 100 fits 20000

pub custom_row_send : IsSend (CustomRow.the_field).row
custom_row_send = search (sendable, list_send, custom_name_send) depth 10

pub scopes_send : IsSend ScopeTable.the_row
scopes_send = search (sendable, list_send, custom_row_send, action_send, BTreeMap-send) depth 10

pub raw_filter_send : IsSend (RawFilter.the_field).row
raw_filter_send = search (sendable, user_send, group_send, service_send, server_send) depth 24

pub scope_send : IsSend (RawScope.the_field).row
scope_send = search (sendable, action_send, raw_filter_send) depth 24

pub filter_send : IsSend (Filter.the_field).row
filter_send = search (sendable, user_send, group_send, service_send, server_send) depth 24

pub owner_send : IsSend (Owner.the_field).row
owner_send = search (sendable, user_send, service_send) depth 10

pub filters_send : IsSend Filters.the_row
filters_send = search (sendable, filter_send, BTreeMap-send) depth 10

pub grant_send : IsSend Grant.the_row
grant_send = search (sendable, filters_send, action_send, BTreeMap-send) depth 10
