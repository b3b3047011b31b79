use Rattle.std.proofs.Common.{subst}
use Rattle.std.specs.Ordering.{nat_cmp}
use Rattle.keyed_rows.specs.Rows.{map_of}
use Rattle.hub_lives.specs.Lives as spec
use Rattle.hub_lives.specs.LiveServers.{LiveServers}
use Rattle.hub_lives.proofs.Holders.{apart}
use Rattle.hub_lives.proofs.lives.Lives.are_apart.Goals as goal

pub returns-clause-apart : goal.returns-clause-apart
returns-clause-apart c = subst (λ (x : LiveServers). spec.AreApart x.pool x.lives x.next) c.self.view_is
    (apart (map_of nat_cmp c.self.inside.rows) c.self.inside.leases c.self.invariant.0 c.next_free-read.ensures.one_to_one)
