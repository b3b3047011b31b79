use Rattle.std.proofs.Common.{◌≡◌, ◌++◌, drop}
use Rattle.admin_rules.specs.Servers.{servers_activity}
use Rattle.admin_rules.proofs.servers.push_servers.Given as goal

-- the changes so far, and those of the servers to come
abbrev pub invariant-loop-server : goal.invariant-loop-server
invariant-loop-server l =
    l.rows.items ++ servers_activity l.tables l.now l.user (drop l.server-index l.servers)
    ≡ l.initial.rows.items ++ servers_activity l.tables l.now l.user l.servers
