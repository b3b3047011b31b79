use Rattle.std.proofs.Common.{subst, arith, Some, ◌≡◌, slice_get}
use Rattle.hub_kit.specs.KeyOrder.{key_cmp}
use Rattle.hub_kit.specs.declared.names.ServerKey.{ServerKey}
use Rattle.server_life.specs.Leased.{HoldsLease, IsUnleased}
use Rattle.server_life.specs.LeaseTable.{LeaseTable}
use Rattle.server_life.specs.LeaseIndex.{server_in}
use Rattle.server_life.proofs.ByServer.{shown}
use Rattle.server_life.proofs.Index.{not_leased, place_below, read_lease, read_none, lease}
use Rattle.server_life.proofs.leases.Leases.generation.Goals as goal

pub returns-in-None : goal.returns-in-None
returns-in-None c =
    let t : LeaseTable = record { pool = c.self.inside.pool; leased = c.self.inside.leased.items; next = c.self.inside.next } in
    subst (λ (t : LeaseTable). IsUnleased t.leased c.args.key.now) c.self.view_is
    (not_leased c.self.inside.leased.items c.self.invariant.0.0 c.args.key.now c.self.invariant.0.2.of_servers (c.in-None.ensures c.self.invariant.0.0 (shown t c.self.inside.free.items c.self.inside.generations.items c.self.inside.servers.items c.self.invariant.0 c.as_slice.result.now c.as_slice-2.result.now c.as_slice.ensures.value c.as_slice-2.ensures.value)))

pub index-requires : goal.index-requires
index-requires c =
    let t : LeaseTable = record { pool = c.self.inside.pool; leased = c.self.inside.leased.items; next = c.self.inside.next } in
    let below = place_below key_cmp server_in c.self.inside.leased.items c.self.invariant.0.0 c.args.key.now c.in-Some.at c.self.invariant.0.2.of_servers (c.in-Some.ensures c.self.invariant.0.0 (shown t c.self.inside.free.items c.self.inside.generations.items c.self.inside.servers.items c.self.invariant.0 c.as_slice.result.now c.as_slice-2.result.now c.as_slice.ensures.value c.as_slice-2.ensures.value)) in
    omega (arith, below, c.self.inside.leased.ok.0)

pub returns-in-Some-index : goal.returns-in-Some-index
returns-in-Some-index c =
    let t : LeaseTable = record { pool = c.self.inside.pool; leased = c.self.inside.leased.items; next = c.self.inside.next } in
    let read = read_lease key_cmp server_in c.self.inside.leased.items c.self.invariant.0.0 c.args.key.now c.in-Some.at c.index.result.now c.in-Some-index.held c.self.invariant.0.2.of_servers
    (c.in-Some.ensures c.self.invariant.0.0 (shown t c.self.inside.free.items c.self.inside.generations.items c.self.inside.servers.items c.self.invariant.0 c.as_slice.result.now c.as_slice-2.result.now c.as_slice.ensures.value c.as_slice-2.ensures.value)) c.index.ensures c.in-Some-index.is in (
      c.in-Some.at,
      subst (λ (t : LeaseTable). HoldsLease t.leased c.in-Some.at c.in-Some-index.held.generation c.args.key.now) c.self.view_is
          (subst (λ (k : ServerKey). slice_get c.self.inside.leased.items c.in-Some.at ≡ Some (Some (lease c.in-Some-index.held.generation k))) read.1 read.0),
    )

pub returns-in-None-index : goal.returns-in-None-index
returns-in-None-index c =
    let t : LeaseTable = record { pool = c.self.inside.pool; leased = c.self.inside.leased.items; next = c.self.inside.next } in
    absurd (read_none key_cmp server_in c.self.inside.leased.items c.self.invariant.0.0 c.args.key.now c.in-Some.at c.index.result.now c.self.invariant.0.2.of_servers
    (c.in-Some.ensures c.self.invariant.0.0 (shown t c.self.inside.free.items c.self.inside.generations.items c.self.inside.servers.items c.self.invariant.0 c.as_slice.result.now c.as_slice-2.result.now c.as_slice.ensures.value c.as_slice-2.ensures.value)) c.index.ensures c.in-None-index.is)
