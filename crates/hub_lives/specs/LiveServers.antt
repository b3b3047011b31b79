-- What contracts see of the live servers, and that they are exactly those that hold a lease.
use Rattle.std.specs.Prelude.{◌≡◌, ℕ, ◌+◌, List, Some, slice_get}
use Rattle.std.specs.FinMap.{get, insert}
use Rattle.hub_kit.specs.declared.names.ServerKey.{ServerKey}
use Rattle.server_life.specs.LeaseTable.{LeaseTable}
use Rattle.server_life.specs.Leased.{HoldsLease}
use Rattle.server_life.specs.LifeTable.{generation_of}
use Rattle.hub_lives.specs.Lives.{Lives, leased_to}
use Rattle.hub_lives.specs.declared.lives.Leased.{Leased}

-- The live servers with their pool and the next generation, as contracts see them
pub record LiveServers : Type 0 where
  -- the targets that servers may hold
  pub pool : List (List ℕ)
  pub lives : Lives
  -- the next generation
  pub next : ℕ

-- the next generation is leased to the server, and is being started
abbrev pub begins : ServerKey → LiveServers → LiveServers
begins server live = record {
  pool = live.pool;
  lives = insert live.lives live.next (leased_to live.pool live.lives live.next server);
  next = live.next + 1;
}

-- this server is live with this generation, and its target stands at this place of the pool
abbrev pub IsAt : LeaseTable → ℕ → ℕ → Leased → Type 0
IsAt t i g l = HoldsLease t.leased i g l.server × (slice_get t.pool i ≡ Some l.target)

-- the live servers are those that hold a lease, and their lives are of their generations
pub record AreHolders (lives : Lives) (t : LeaseTable) : Type 0 where
  pub held : (i g : ℕ) (key : ServerKey) → HoldsLease t.leased i g key → (l : Leased) × (get lives g ≡ Some l) × IsAt t i g l
  pub live : (g : ℕ) (l : Leased) → get lives g ≡ Some l → (i : ℕ) × IsAt t i g l
  pub phases : (g : ℕ) (l : Leased) → get lives g ≡ Some l → generation_of l.life.phase ≡ Some g
