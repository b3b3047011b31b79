-- What contracts see of the leases.
use Rattle.std.specs.Prelude.{ℕ, ◌≡◌, ◌≢◌, ◌<◌, ◌≤◌, List, Option, length, AllPairs}
use Rattle.hub_kit.specs.declared.target.Target.{Target}
use Rattle.hub_kit.specs.declared.names.ServerKey.{ServerKey}
use Rattle.server_life.specs.declared.leases.Held.{Held}
use Rattle.server_life.specs.Leased.{HoldsLease}

-- The leases of a pool, at the places of their targets, and the next generation
pub record LeaseTable : Type 0 where
  pub pool : List Target
  pub leased : List (Option Held)  -- at each place, the lease of the target there
  pub next : ℕ

-- each target has its place, and different places have different generations and servers
pub record IsOneToOne (t : LeaseTable) : Type 0 where
  pub places : length t.leased ≡ length t.pool
  pub small : length t.pool ≤ 1000
  pub above : 1 ≤ t.next
  pub distinct : AllPairs (λ a b. a ≢ b) t.pool
  pub below : (i g : ℕ) (key : ServerKey) → HoldsLease t.leased i g key → g < t.next
  pub generations : (i j g : ℕ) (k l : ServerKey) → HoldsLease t.leased i g k → HoldsLease t.leased j g l → i ≡ j
  pub servers : (i j g h : ℕ) (k : ServerKey) → HoldsLease t.leased i g k → HoldsLease t.leased j h k → i ≡ j
