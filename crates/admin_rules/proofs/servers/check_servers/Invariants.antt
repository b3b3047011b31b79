use Rattle.std.proofs.Common.{◌≡◌, drop}
use Rattle.admin_rules.specs.Servers.{if_unknown_server}
use Rattle.admin_rules.proofs.servers.check_servers.Given as goal

abbrev pub invariant-loop-server : goal.invariant-loop-server
invariant-loop-server l = if_unknown_server l.tables l.user (drop l.server-index l.servers) ≡ if_unknown_server l.tables l.user l.servers
