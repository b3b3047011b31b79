use Rattle.std.proofs.Common.{◌≡◌, Some, None, subst, sym, ◌∙◌}
use Rattle.std.specs.Ordering.{nat_cmp}
use Rattle.keyed_rows.specs.Rows.{map_of}
use Rattle.hub_lives.specs.Lives as spec
use Rattle.hub_lives.specs.LiveServers.{LiveServers}
use Rattle.hub_lives.proofs.Holders.{first_free, none_free, the_target}
use Rattle.hub_lives.proofs.lives.Lives.free_target.Goals as goal

pub returns-in-Ok : goal.returns-in-Ok
returns-in-Ok c = sym (subst (λ (x : LiveServers). spec.free_target x.pool x.lives ≡ Some c.index-as_slice-place.result) c.self.view_is
    (first_free (map_of nat_cmp c.self.inside.rows) c.self.inside.leases c.in-Ok.place c.index-as_slice-place.result c.self.invariant.0 c.next_free.ensures.one_to_one c.in-Ok.ensures.answer.1
    (the_target c.self.inside.leases c.in-Ok.place c.as_slice.result.now c.index-as_slice-place.result c.next_free.ensures.one_to_one c.in-Ok.ensures.answer.1.0 (c.as_slice.ensures.value ∙ c.pool.ensures) c.index-as_slice-place.is)))

pub returns-in-Err : goal.returns-in-Err
returns-in-Err c = sym (subst (λ (x : LiveServers). spec.free_target x.pool x.lives ≡ None) c.self.view_is
    (none_free (map_of nat_cmp c.self.inside.rows) c.self.inside.leases c.self.invariant.0 c.next_free.ensures.one_to_one c.in-Err.ensures.answer.0))
