-- Facts on the leases of a pool, which stand in the order of the pool.
use Rattle.std.specs.Prelude.{ℕ, ◌≡◌, ◌≢◌, ◌<◌, List, Option, Some, None, slice_get}
use Rattle.hub_kit.specs.declared.names.ServerKey.{ServerKey}
use Rattle.server_life.specs.declared.leases.Held.{Held}

-- the target at place i has no lease
abbrev pub IsFree : List (Option Held) → ℕ → Type 0
IsFree leased i = slice_get leased i ≡ Some None

-- The target at place i is the first without a lease
abbrev pub IsFirstFree : List (Option Held) → ℕ → Type 0
IsFirstFree leased i = IsFree leased i × ((k : ℕ) → k < i → slice_get leased k ≢ Some None)

-- the lease of generation g for this server stands at place i
abbrev pub HoldsLease : List (Option Held) → ℕ → ℕ → ServerKey → Type 0
HoldsLease leased i g key = slice_get leased i ≡ Some (Some (record { generation = g; server = key }))

-- The generation g has no lease
abbrev pub IsNotLive : List (Option Held) → ℕ → Type 0
IsNotLive leased g = (i : ℕ) (key : ServerKey) → HoldsLease leased i g key → ⊥

-- The server has no lease
abbrev pub IsUnleased : List (Option Held) → ServerKey → Type 0
IsUnleased leased key = (i g : ℕ) → HoldsLease leased i g key → ⊥
