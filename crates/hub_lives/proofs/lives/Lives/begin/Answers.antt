use Rattle.std.proofs.Common.{◌≡◌, false, None, Some, subst, sym, ap, ◌∙◌, arith, refl}
use Rattle.std.specs.FinMap as map
use Rattle.std.specs.Ordering.{nat_cmp}
use Rattle.keyed_rows.specs.Rows.{map_of}
use Rattle.hub_lives.specs.Lives as spec
use Rattle.hub_lives.specs.LiveServers.{LiveServers, begins}
use Rattle.server_life.specs.LeaseTable.{LeaseTable}
use Rattle.hub_lives.specs.declared.lives.Leased.{Leased}
use Rattle.server_life.specs.declared.life.Phase.TheVariants.{Spawning}
use Rattle.hub_lives.proofs.Holders.{none_free, below_pool, the_target, unleased, began, begins_is, no_row}
use Rattle.hub_lives.proofs.Sums.{begins_owing}
use Rattle.hub_lives.proofs.lives.Lives.begin.Goals as goal

pub unreachable-requires : goal.unreachable-requires
unreachable-requires c = c.requires.free (subst (λ (x : LiveServers). spec.free_target x.pool x.lives ≡ None) c.self.view_is
    (none_free (map_of nat_cmp c.self.inside.rows) c.self.inside.leases c.self.invariant.0 c.next_free.ensures.one_to_one c.in_default.ensures.answer.0))

pub bounds-as_slice-place : goal.bounds-as_slice-place
bounds-as_slice-place c = below_pool c.self.inside.leases c.in-Ok.place c.as_slice.result.now c.next_free.ensures.one_to_one c.in-Ok.ensures.answer.1.0 (c.as_slice.ensures.value ∙ c.pool.ensures)

pub offset_bounds-as_slice-place : goal.offset_bounds-as_slice-place
offset_bounds-as_slice-place c =
    let below = below_pool c.self.inside.leases c.in-Ok.place c.as_slice.result.now c.next_free.ensures.one_to_one c.in-Ok.ensures.answer.1.0 (c.as_slice.ensures.value ∙ c.pool.ensures) in
    let fits = c.as_slice.type_inv.1 in
    omega (arith, below, fits)

pub take-requires-clause-unleased : goal.take-requires-clause-unleased
take-requires-clause-unleased c = unleased (map_of nat_cmp c.self.inside.rows) c.self.inside.leases c.args.server.now c.self.invariant.0 c.next_free.ensures.one_to_one
    (ap (λ (x : LiveServers). spec.lease_of x.lives c.args.server.now) c.self.view_is ∙ c.requires.rests)

pub invariant_of-self-2 : goal.invariant_of-self-2
invariant_of-self-2 c =
    let lives = map_of nat_cmp c.self.inside.rows in
    let t : LeaseTable = c.self.inside.leases in
    let lease : Leased = record { server = c.args.server.now; target = c.in_ok-target.target; life = record { phase = Spawning c.in-Ok.generation; stop_asked = false } } in
    let one = c.next_free.ensures.one_to_one in
    let key = c.in-Ok.ensures.answer.0 in
    let target = the_target t c.in-Ok.place c.as_slice.result.now c.index-as_slice-place.result one c.in-Ok.ensures.answer.1.0 (c.as_slice.ensures.value ∙ c.pool.ensures) c.index-as_slice-place.is in (
      began lives (map_of nat_cmp c.insert_row.new.rows) t c.take.new.self c.in-Ok.place c.in-Ok.generation lease c.self.invariant.0 one c.in_ok-insert_row.ensures.ok key c.in-Ok.ensures.answer.1 c.take.ensures
          (target ∙ ap Some (sym c.in_ok-target.ensures)) refl,
      begins_owing lives c.in-Ok.generation c.entries_owed.result c.self.inside.still_owed lease (ap (map.get lives) key ∙ no_row lives t c.self.invariant.0 one) c.self.invariant.1 c.entries_owed.ensures
          ∙ ap spec.owed (sym c.in_ok-insert_row.ensures.ok),
    )

pub returns-clause-ok : goal.returns-clause-ok
returns-clause-ok c =
    let lives = map_of nat_cmp c.self.inside.rows in
    let t : LeaseTable = c.self.inside.leases in
    let lease : Leased = record { server = c.args.server.now; target = c.in_ok-target.target; life = record { phase = Spawning c.in-Ok.generation; stop_asked = false } } in
    let one = c.next_free.ensures.one_to_one in
    let target = the_target t c.in-Ok.place c.as_slice.result.now c.index-as_slice-place.result one c.in-Ok.ensures.answer.1.0 (c.as_slice.ensures.value ∙ c.pool.ensures) c.index-as_slice-place.is in
    begins_is lives (map_of nat_cmp c.insert_row.new.rows) t c.take.new.self c.in-Ok.place c.in-Ok.generation lease c.self.invariant.0 one c.in_ok-insert_row.ensures.ok c.in-Ok.ensures.answer.0
    c.in-Ok.ensures.answer.1 c.take.ensures (target ∙ ap Some (sym c.in_ok-target.ensures)) refl
    ∙ ap (begins c.args.server.now) c.self.view_is
