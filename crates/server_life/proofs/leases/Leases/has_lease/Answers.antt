use Rattle.std.proofs.Common.{ℕ, ◌≡◌, ◌≢◌, MatchBool, subst}
use Rattle.hub_kit.specs.declared.names.ServerKey.{ServerKey}
use Rattle.server_life.specs.Leased.{HoldsLease}
use Rattle.server_life.specs.LeaseTable.{LeaseTable}
use Rattle.server_life.proofs.ByServer.{shown}
use Rattle.server_life.proofs.Users.{user_leased}
use Rattle.server_life.proofs.leases.Leases.has_lease.Goals as goal

pub returns : goal.returns
returns c =
    let t : LeaseTable = record { pool = c.self.inside.pool; leased = c.self.inside.leased.items; next = c.self.inside.next } in
    subst (λ (t : LeaseTable). MatchBool c.has_user.result
    ((i g : ℕ) × (key : ServerKey) × HoldsLease t.leased i g key × (key.user ≡ c.args.user.now))
    ((i g : ℕ) (key : ServerKey) → HoldsLease t.leased i g key → key.user ≢ c.args.user.now)) c.self.view_is
    (user_leased c.self.inside.leased.items c.self.invariant.0.0 c.args.user.now c.has_user.result c.self.invariant.0.2.of_servers
    (c.has_user.ensures c.self.invariant.0.0 (shown t c.self.inside.free.items c.self.inside.generations.items c.self.inside.servers.items c.self.invariant.0 c.as_slice.result.now c.as_slice-2.result.now c.as_slice.ensures.value c.as_slice-2.ensures.value)))
