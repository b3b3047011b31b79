use Rattle.std.proofs.Common.{ℕ, ◌≡◌, List, T, IsSome, None, not, arith, refl, subst, sym, ap, ◌∙◌}
use Rattle.std.specs.Ordering.{nat_cmp, eq_by_cmp}
use Rattle.std.specs.FinMap.Entries.{find, is_sorted, where_key}
use Rattle.hub_kit.specs.KeyOrder.{key_cmp}
use Rattle.server_life.specs.Leased.{HoldsLease, IsNotLive}
use Rattle.server_life.specs.LeaseTable.{LeaseTable}
use Rattle.server_life.specs.LeaseIndex.{generation_in}
use Rattle.server_life.proofs.ByServer.{shown, lease_read, lease_lost}
use Rattle.server_life.proofs.Index.{freed_index, known_server, not_free, not_live, place_below, moved, with_lease, lease}
use Rattle.server_life.proofs.leases.Leases.free.Goals as goal

pub get-requires : goal.get-requires
get-requires c = subst (λ (es : List (ℕ × ℕ)). T (is_sorted nat_cmp es)) (sym c.as_slice.ensures.value) c.self.invariant.0.2.generations_rise

pub returns-in_default : goal.returns-in_default
returns-in_default c =
    let none : None ≡ find nat_cmp c.args.g c.self.inside.generations.items = c.in_default.ensures ∙ ap (find nat_cmp c.args.g) c.as_slice.ensures.value in
    (subst (λ (t : LeaseTable). IsNotLive t.leased c.args.g) c.self.view_is (not_live c.self.inside.leased.items c.self.inside.generations.items c.args.g c.self.invariant.0.2.of_generations none), refl)

pub returns-in_default-server_at : goal.returns-in_default-server_at
returns-in_default-server_at c = absurd (lease_lost c.self.inside.leased.items c.as_slice-2.result.now c.self.inside.generations.items c.args.g c.in-Some.at c.self.invariant.0.2.of_generations
    (c.in-Some.ensures ∙ ap (find nat_cmp c.args.g) c.as_slice.ensures.value) c.as_slice-2.ensures.value c.in_default-server_at.ensures)

pub index_mut-requires : goal.index_mut-requires
index_mut-requires c =
    let below = place_below nat_cmp generation_in c.self.inside.leased.items c.self.inside.generations.items c.args.g c.in-Some.at c.self.invariant.0.2.of_generations (c.in-Some.ensures ∙ ap (find nat_cmp c.args.g) c.as_slice.ensures.value) in
    omega (arith, below, c.self.inside.leased.ok.0)

pub remove-requires-clause-sorted : goal.remove-requires-clause-sorted
remove-requires-clause-sorted c = c.self.invariant.0.2.generations_rise

pub remove-requires-clause-known : goal.remove-requires-clause-known
remove-requires-clause-known c = subst IsSome (c.in-Some.ensures ∙ ap (find nat_cmp c.args.g) c.as_slice.ensures.value) refl

pub put-requires-clause-sorted : goal.put-requires-clause-sorted
put-requires-clause-sorted c = c.self.invariant.0.2.free_rise

pub put-requires-clause-new : goal.put-requires-clause-new
put-requires-clause-new c =
    let held = lease_read c.self.inside.leased.items c.as_slice-2.result.now c.self.inside.generations.items c.args.g c.in-Some.at c.in-Some-server_at.key c.self.invariant.0.2.of_generations
    (c.in-Some.ensures ∙ ap (find nat_cmp c.args.g) c.as_slice.ensures.value) c.as_slice-2.ensures.value c.in-Some-server_at.ensures in
    not_free c.self.inside.leased.items c.self.inside.free.items c.in-Some.at (lease c.args.g c.in-Some-server_at.key) c.self.invariant.0.2.free_places held

pub invariant_of-self : goal.invariant_of-self
invariant_of-self c =
    let t : LeaseTable = record { pool = c.self.inside.pool; leased = c.self.inside.leased.items; next = c.self.inside.next } in
    let held = lease_read c.self.inside.leased.items c.as_slice-2.result.now c.self.inside.generations.items c.args.g c.in-Some.at c.in-Some-server_at.key c.self.invariant.0.2.of_generations
    (c.in-Some.ensures ∙ ap (find nat_cmp c.args.g) c.as_slice.ensures.value) c.as_slice-2.ensures.value c.in-Some-server_at.ensures in
    let seen = shown t c.self.inside.free.items c.self.inside.generations.items c.self.inside.servers.items c.self.invariant.0 c.as_slice-3.result.now c.self.inside.servers.items c.as_slice-3.ensures.value refl in (
      (
        where_key key_cmp (λ k. not (eq_by_cmp key_cmp c.in-Some-server_at.key k)) c.self.invariant.0.0,
        c.remove_server.ensures.places c.self.invariant.0.0 seen
            (known_server c.self.inside.leased.items c.self.invariant.0.0 c.in-Some.at (lease c.args.g c.in-Some-server_at.key) c.self.invariant.0.2.of_servers held),
        moved _ _ _ _ _ _ c.put.ensures.items c.remove.ensures.items
            (freed_index t c.self.inside.free.items c.self.inside.generations.items c.self.invariant.0.0 c.in-Some.at (lease c.args.g c.in-Some-server_at.key) c.self.invariant.0.2 held),
      ),
      omega (arith, c.put.ensures.capacity, c.self.invariant.1),
      omega (arith, c.remove.ensures.capacity, c.self.invariant.2),
      omega (arith, c.remove_server.ensures.capacity, c.self.invariant.3),
    )

pub returns : goal.returns
returns c =
    let t : LeaseTable = record { pool = c.self.inside.pool; leased = c.self.inside.leased.items; next = c.self.inside.next } in
    let held = lease_read c.self.inside.leased.items c.as_slice-2.result.now c.self.inside.generations.items c.args.g c.in-Some.at c.in-Some-server_at.key c.self.invariant.0.2.of_generations
    (c.in-Some.ensures ∙ ap (find nat_cmp c.args.g) c.as_slice.ensures.value) c.as_slice-2.ensures.value c.in-Some-server_at.ensures in (
      c.in-Some.at,
      c.in-Some-server_at.key,
      subst (λ (t : LeaseTable). HoldsLease t.leased c.in-Some.at c.args.g c.in-Some-server_at.key) c.self.view_is held,
      ap (λ (u : LeaseTable). with_lease u c.in-Some.at None) c.self.view_is,
    )
