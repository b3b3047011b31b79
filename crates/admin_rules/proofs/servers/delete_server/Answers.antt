use Rattle.admin_rules.proofs.Plain.{server_plain}
use Rattle.admin_rules.proofs.servers.delete_server.Goals as goal

pub returns-clause-plain : goal.returns-clause-plain
returns-clause-plain c = server_plain c.args.tables.now c.args.server.now _ c.in_ok-server_rows.ensures
