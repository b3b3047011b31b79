-- The state of the hub: its rows, its live servers, the length and the cost of its history, and what is fixed.
use Rattle.std.specs.Prelude.{◌≡◌, ℕ, ◌+◌, ◌*◌, ◌≤◌, ◌^◌, max, Bool, false, List, length, codes, Option, Some, option_map, ◌↔◌}
use Rattle.std.specs.FinMap.{get}
use Rattle.hub_kit.specs.declared.names.ServerKey.{ServerKey}
use Rattle.server_life.specs.Pools.{IsPool}
use Rattle.hub_rows.specs.declared.records.Lease.{Lease}
use Rattle.hub_tables.specs.Lookups.{next_of}
use Rattle.hub_tables.specs.State.{State}
use Rattle.hub_lives.specs.declared.lives.Leased.{Leased}
pub use Rattle.hub_lives.specs.Lives.{Lives, at_rest, lease_of, life_in, life_of, has_live_server, owed, is_leased, free_target, AreApart}

-- The state of the hub
pub record Hub : Type 0 where
  -- the rows, with the limits and the custom scopes
  pub tables : State
  -- the live servers, under their generations
  pub lives : Lives
  -- of the history: how many entries, and what they cost in bytes
  pub length : ℕ
  pub cost : ℕ
  -- the targets that servers may hold, the hub's own, and whether entries cost nothing
  pub pool : List (List ℕ)
  pub hub_url : Option (List ℕ)
  pub no_trail : Bool

-- The number of the next generation
abbrev pub next_generation : State → ℕ
next_generation t = next_of t (codes "generation")

-- ---- what is true of every hub

-- What a history may cost: the limit, or what the adoptions of an opening owe, which are never asked for room: four entries for each target
abbrev pub most : Hub → ℕ
most s = max s.tables.limits.trail_bytes (256 * length s.pool)

-- the greatest next generation of an opening: a kept number is at most 2 ^ 61, and each lease may take one more
abbrev pub opening_next : (pool : List (List ℕ)) → ℕ
opening_next pool = 2 ^ 61 + length pool

-- A history costs at least a byte for each entry, and with 64 for each that is owed no more than it may. Without a trail its length alone
-- is limited.
pub record IsBounded (s : Hub) : Type 0 where
  pub length : s.length + owed s.lives ≤ 2 ^ 62
  pub counted : s.no_trail ≡ false → s.length ≤ s.cost
  pub within : s.no_trail ≡ false → s.cost + 64 * owed s.lives ≤ most s
  pub limit : most s ≤ 2 ^ 62

-- the server that the row of a target names
abbrev pub holder : State → List ℕ → Option ServerKey
holder t target = option_map (λ (row : Lease). row.server) (get t.leases target)

-- A live generation of this server has this target
abbrev pub IsHeldBy : Lives → (target : List ℕ) → ServerKey → Type 0
IsHeldBy lives target server = (g : ℕ) × (a : Leased) × (get lives g ≡ Some a) × (a.target ≡ target) × (a.server ≡ server)

-- a lease is kept exactly for each live server
abbrev pub KeepsLeases : State → Lives → Type 0
KeepsLeases t lives = (target : List ℕ) (server : ServerKey) → (holder t target ≡ Some server) ↔ IsHeldBy lives target server

-- the live servers, the leases that are kept and the next generation are of one piece
pub record AreLeased (s : Hub) : Type 0 where
  pub pool : IsPool s.pool
  pub apart : AreApart s.pool s.lives (next_generation s.tables)
  pub kept : KeepsLeases s.tables s.lives
  -- so a generation that is still to come is below 2 ^ 63
  pub few : next_generation s.tables ≤ opening_next s.pool + s.length
