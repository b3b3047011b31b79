use Rattle.hub_rows.specs.declared.rows.Row.TheVariants as Row
use Rattle.table_changes.proofs.Free.{new_alone, new_row}
use Rattle.table_changes.proofs.done.put.Goals as goal

pub returns-in-User-clause-memory : goal.returns-in-User-clause-memory
returns-in-User-clause-memory c = new_row c.args.tables.now c.put_user.result c.in-User.is (new_alone c.args.tables.now.users c.in-User.row.name Row.User c.put_user.result c.put_user.ensures.answer)

pub returns-in-Group-clause-memory : goal.returns-in-Group-clause-memory
returns-in-Group-clause-memory c = new_row c.args.tables.now c.put_group.result c.in-Group.is (new_alone c.args.tables.now.groups c.in-Group.row.name Row.Group c.put_group.result c.put_group.ensures.answer)

pub returns-in-Service-clause-memory : goal.returns-in-Service-clause-memory
returns-in-Service-clause-memory c = new_row c.args.tables.now c.put_service.result c.in-Service.is (new_alone c.args.tables.now.services c.in-Service.row.name Row.Service c.put_service.result c.put_service.ensures.answer)

pub returns-in-Role-clause-memory : goal.returns-in-Role-clause-memory
returns-in-Role-clause-memory c = new_row c.args.tables.now c.put_role.result c.in-Role.is (new_alone c.args.tables.now.roles c.in-Role.row.name Row.Role c.put_role.result c.put_role.ensures.answer)

pub returns-in-Token-clause-memory : goal.returns-in-Token-clause-memory
returns-in-Token-clause-memory c = new_row c.args.tables.now c.put_token.result c.in-Token.is (new_alone c.args.tables.now.tokens c.in-Token.row.id Row.Token c.put_token.result c.put_token.ensures.answer)

pub returns-in-ServerRow-clause-memory : goal.returns-in-ServerRow-clause-memory
returns-in-ServerRow-clause-memory c = new_row c.args.tables.now c.put_server.result c.in-ServerRow.is (new_alone c.args.tables.now.servers c.in-ServerRow.row.key Row.ServerRow c.put_server.result c.put_server.ensures.answer)

pub returns-in-Lease-clause-memory : goal.returns-in-Lease-clause-memory
returns-in-Lease-clause-memory c = new_row c.args.tables.now c.put_lease.result c.in-Lease.is (new_alone c.args.tables.now.leases c.in-Lease.row.target Row.Lease c.put_lease.result c.put_lease.ensures.answer)

pub returns-in-Share-clause-memory : goal.returns-in-Share-clause-memory
returns-in-Share-clause-memory c = new_row c.args.tables.now c.put_share.result c.in-Share.is (new_alone c.args.tables.now.shares c.in-Share.row.key Row.Share c.put_share.result c.put_share.ensures.answer)

pub returns-in-ShareCode-clause-memory : goal.returns-in-ShareCode-clause-memory
returns-in-ShareCode-clause-memory c = new_row c.args.tables.now c.put_code.result c.in-ShareCode.is (new_alone c.args.tables.now.codes c.in-ShareCode.row.id Row.ShareCode c.put_code.result c.put_code.ensures.answer)

pub returns-in-OAuthClient-clause-memory : goal.returns-in-OAuthClient-clause-memory
returns-in-OAuthClient-clause-memory c = new_row c.args.tables.now c.put_client.result c.in-OAuthClient.is (new_alone c.args.tables.now.clients c.in-OAuthClient.row.id Row.OAuthClient c.put_client.result c.put_client.ensures.answer)

pub returns-in-OAuthCode-clause-memory : goal.returns-in-OAuthCode-clause-memory
returns-in-OAuthCode-clause-memory c = new_row c.args.tables.now c.put_grant_code.result c.in-OAuthCode.is (new_alone c.args.tables.now.grant_codes c.in-OAuthCode.row.hash Row.OAuthCode c.put_grant_code.result c.put_grant_code.ensures.answer)

pub returns-in-Next-clause-memory : goal.returns-in-Next-clause-memory
returns-in-Next-clause-memory c = new_row c.args.tables.now c.put_next.result c.in-Next.is (new_alone c.args.tables.now.nexts c.in-Next.row.name Row.Next c.put_next.result c.put_next.ensures.answer)
