use Rattle.std.proofs.Common.{◌≡◌, ◌++◌, drop}
use Rattle.idle_culler.specs.Culled.{culled_servers}
use Rattle.idle_culler.proofs.rules.push_servers.Given as goal

abbrev pub invariant-loop-server : goal.invariant-loop-server
invariant-loop-server l =
    l.list ++ culled_servers l.options l.now l.user (drop l.server-index l.servers)
    ≡ l.fn.list ++ culled_servers l.options l.now l.user l.servers
