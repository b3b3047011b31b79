use Rattle.std.proofs.Common.{false, Some, List, ℕ, subst, sym, ap, ◌∙◌, refl}
use Rattle.std.specs.Prelude.{Contains, slice_get}
use Rattle.std.specs.FinMap as map
use Rattle.std.specs.Ordering.{nat_cmp}
use Rattle.keyed_rows.specs.Rows.{map_of}
use Rattle.hub_lives.specs.Lives as spec
use Rattle.hub_lives.specs.LiveServers.{LiveServers}
use Rattle.server_life.specs.LeaseTable.{LeaseTable}
use Rattle.hub_lives.specs.declared.lives.Leased.{Leased}
use Rattle.server_life.specs.declared.life.Phase.TheVariants.{Adopting}
use Rattle.hub_lives.proofs.Holders.{unleased, free_place, not_live, adopted_too}
use Rattle.hub_lives.proofs.Sums.{begins_owing}
use Rattle.hub_lives.proofs.lives.Lives.adopt.Goals as goal

pub unreachable-requires : goal.unreachable-requires
unreachable-requires c =
    c.in_default.ensures (subst (λ (ps : List (List ℕ)). Contains ps c.args.target.now)
    (sym (c.as_slice.ensures.value ∙ c.pool.ensures ∙ ap (λ (x : LiveServers). x.pool) c.self.view_is)) c.requires.pooled)

pub hold-requires-clause-free : goal.hold-requires-clause-free
hold-requires-clause-free c =
    free_place (map_of nat_cmp c.self.inside.rows) c.self.inside.leases c.in-Some.place c.args.target.now c.self.invariant.0 c.next_free-read.ensures.one_to_one
    (ap (λ (ps : List (List ℕ)). slice_get ps c.in-Some.place) (sym (c.as_slice.ensures.value ∙ c.pool.ensures)) ∙ c.in-Some.ensures)
    (ap (λ (x : LiveServers). spec.is_leased x.lives c.args.target.now) c.self.view_is ∙ c.requires.free)

pub hold-requires-clause-not_live : goal.hold-requires-clause-not_live
hold-requires-clause-not_live c =
    not_live (map_of nat_cmp c.self.inside.rows) c.self.inside.leases c.args.generation c.self.invariant.0
    (ap (λ (x : LiveServers). map.get x.lives c.args.generation) c.self.view_is ∙ c.requires.fresh)

pub hold-requires-clause-unleased : goal.hold-requires-clause-unleased
hold-requires-clause-unleased c = unleased (map_of nat_cmp c.self.inside.rows) c.self.inside.leases c.args.server.now c.self.invariant.0 c.next_free-read.ensures.one_to_one
    (ap (λ (x : LiveServers). spec.lease_of x.lives c.args.server.now) c.self.view_is ∙ c.requires.rests)

pub invariant_of-self-2 : goal.invariant_of-self-2
invariant_of-self-2 c =
    let lives = map_of nat_cmp c.self.inside.rows in
    let t : LeaseTable = c.self.inside.leases in
    let g = c.args.generation in
    let lease : Leased = record { server = c.args.server.now; target = c.in_ok-copy.field-0; life = record { phase = Adopting g; stop_asked = false } } in
    let new = ap (λ (x : LiveServers). map.get x.lives g) c.self.view_is ∙ c.requires.fresh in
    let at = ap (λ (ps : List (List ℕ)). slice_get ps c.in-Some.place) (sym (c.as_slice.ensures.value ∙ c.pool.ensures)) ∙ c.in-Some.ensures in (
      adopted_too lives (map_of nat_cmp c.insert_row.new.rows) t c.hold.new.self c.in-Some.place g lease c.self.invariant.0 c.in_ok-insert_row.ensures.ok c.hold.ensures
          (free_place lives t c.in-Some.place c.args.target.now c.self.invariant.0 c.next_free-read.ensures.one_to_one at (ap (λ (x : LiveServers). spec.is_leased x.lives c.args.target.now) c.self.view_is ∙ c.requires.free))
          (at ∙ ap Some (sym c.in_ok-copy.ensures)) refl new,
      begins_owing lives g c.entries_owed.result c.self.inside.still_owed lease new c.self.invariant.1 c.entries_owed.ensures ∙ ap spec.owed (sym c.in_ok-insert_row.ensures.ok),
    )
