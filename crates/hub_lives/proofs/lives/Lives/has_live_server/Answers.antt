use Rattle.std.proofs.Common.{◌≡◌, subst}
use Rattle.std.specs.Ordering.{nat_cmp}
use Rattle.keyed_rows.specs.Rows.{map_of}
use Rattle.hub_lives.specs.Lives as spec
use Rattle.hub_lives.specs.LiveServers.{LiveServers}
use Rattle.hub_lives.proofs.Holders.{told_user}
use Rattle.hub_lives.proofs.lives.Lives.has_live_server.Goals as goal

pub returns : goal.returns
returns c = subst (λ (x : LiveServers). c.has_lease.result ≡ spec.has_live_server x.lives c.args.user.now) c.self.view_is
    (told_user (map_of nat_cmp c.self.inside.rows) c.self.inside.leases c.args.user.now c.has_lease.result c.self.invariant.0 c.has_lease.ensures)
