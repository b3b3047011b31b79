use Rattle.std.proofs.Common.{◌≡◌, Some, None, subst, sym, ap, ◌∙◌}
use Rattle.std.specs.FinMap as map
use Rattle.std.specs.Ordering.{nat_cmp}
use Rattle.keyed_rows.specs.Rows.{map_of}
use Rattle.hub_lives.specs.Lives as spec
use Rattle.hub_lives.specs.LiveServers.{LiveServers}
use Rattle.hub_lives.proofs.Holders.{no_lease, the_lease}
use Rattle.hub_lives.proofs.lives.Lives.lease_of.Goals as goal

pub returns-in-None : goal.returns-in-None
returns-in-None c = subst (λ (x : LiveServers). spec.lease_of x.lives c.args.key.now ≡ None) c.self.view_is
    (no_lease (map_of nat_cmp c.self.inside.rows) c.self.inside.leases c.args.key.now c.self.invariant.0 c.in-None.ensures)

pub returns-in-Some-get : goal.returns-in-Some-get
returns-in-Some-get c = subst (λ (x : LiveServers). spec.lease_of x.lives c.args.key.now ≡ Some (c.in-Some.generation, c.in-Some-get.lease.now)) c.self.view_is
    (the_lease (map_of nat_cmp c.self.inside.rows) c.self.inside.leases c.args.key.now c.in-Some.ensures.0 c.in-Some.generation c.in-Some-get.lease.now c.self.invariant.0
    c.next_free-read.ensures.one_to_one c.in-Some.ensures.1 (ap (λ (x : LiveServers). map.get x.lives c.in-Some.generation) c.self.view_is ∙ sym c.in-Some-get.ensures))
