use Rattle.std.proofs.Common.{◌≡◌, ◌++◌, drop}
use Rattle.scope_filters.specs.Grants.{grant_admits}
use Rattle.hub_view.specs.Body.{members}
use Rattle.hub_view.specs.Fields.{Rights, shown_servers}
use Rattle.hub_view.proofs.users.shown_servers.Given as goal

abbrev pub invariant-loop-server : goal.invariant-loop-server
invariant-loop-server g l =
    let may : Rights = grant_admits (g.M.Members.context l.m) l.rights in
    members l.shown.items ++ shown_servers may (drop l.server-index l.servers) ≡ shown_servers may l.servers
