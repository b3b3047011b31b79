-- The look-ups of the leases: which places are free, and the place of each generation and of each server.
use Rattle.std.specs.Prelude.{ℕ, Bool, false, ◌≡◌, ◌≢◌, ◌+◌, T, List, Option, Some, None, MatchOption, map, slice_get, length}
use Rattle.std.specs.declared.cmp.Ordering.{Ordering}
use Rattle.std.specs.Ordering.{nat_cmp, is_lt, eq_by_cmp}
use Rattle.std.specs.FinMap.Entries.{find, is_sorted}
use Rattle.hub_kit.specs.declared.names.ServerKey.{ServerKey}
use Rattle.hub_kit.specs.KeyOrder.{key_cmp, name_cmp}
use Rattle.server_life.specs.declared.leases.Held.{Held}
use Rattle.server_life.specs.Leased.{IsFree}
use Rattle.server_life.specs.LeaseTable.{LeaseTable, IsOneToOne}

-- what is found at a key is the place of the lease that has it
abbrev pub IsIndex : {K : Type 0} → (K → K → Ordering) → (Held → K) → List (Option Held) → List (K × ℕ) → Type 0
IsIndex {K} R key_of leased es = (q : K) → MatchOption (find R q es)
    ((i : ℕ) (h : Held) → slice_get leased i ≡ Some (Some h) → key_of h ≢ q)
    (λ i. (h : Held) × (slice_get leased i ≡ Some (Some h)) × (key_of h ≡ q))

-- The list has exactly the places without a lease
abbrev pub IsFreeIndex : List (Option Held) → List (ℕ × Unit {0}) → Type 0
IsFreeIndex leased es = (i : ℕ) → MatchOption (find nat_cmp i es) (IsFree leased i → ⊥) (λ _. IsFree leased i)

-- The generation of a lease
abbrev pub generation_in : Held → ℕ
generation_in h = h.generation

-- The server of a lease
abbrev pub server_in : Held → ServerKey
server_in h = h.server

-- Three lists in the order of their keys tell of the table which places are free, at which place each live generation has its lease,
-- and at which each server has it; each place is either free or leased, so two lengths add up to the pool's
pub record HasOrderedLists (t : LeaseTable) (free : List (ℕ × Unit {0})) (generations : List (ℕ × ℕ)) (servers : List (ServerKey × ℕ))
    : Type 0 where
  pub one : IsOneToOne t
  pub free_rise : T (is_sorted nat_cmp free)
  pub free_places : IsFreeIndex t.leased free
  pub generations_rise : T (is_sorted nat_cmp generations)
  pub of_generations : IsIndex nat_cmp generation_in t.leased generations
  pub servers_rise : T (is_sorted key_cmp servers)
  pub of_servers : IsIndex key_cmp server_in t.leased servers
  pub all_generations : length generations + length free ≡ length t.pool
  pub all_servers : length servers + length free ≡ length t.pool

-- what a search among the servers asks at a place
abbrev pub is_below : ServerKey → Option (Option Held) → Bool
is_below q (Some (Some h)) = is_lt (key_cmp h.server q)
is_below q o = false

-- What stands at the place is the lease of the server q
abbrev pub is_of : ServerKey → Option (Option Held) → Bool
is_of q (Some (Some h)) = eq_by_cmp key_cmp q h.server
is_of q o = false

-- What stands at the place is the lease of a server whose user comes before this one
abbrev pub user_below : List ℕ → Option (Option Held) → Bool
user_below u (Some (Some h)) = is_lt (name_cmp h.server.user u)
user_below u o = false

-- What stands at the place is the lease of a server of this user
abbrev pub user_of : List ℕ → Option (Option Held) → Bool
user_of u (Some (Some h)) = eq_by_cmp name_cmp h.server.user u
user_of u o = false

-- The server of the lease at the place, if one stands there
abbrev pub server_of : Option (Option Held) → Option ServerKey
server_of (Some (Some h)) = Some h.server
server_of o = None

-- The place of an entry
abbrev pub place_in : ServerKey × ℕ → ℕ
place_in e = e.1

-- the places of these servers, which hold the targets there, in the order of their keys
pub record AreServersAt (leased : List (Option Held)) (places : List ℕ) (servers : List (ServerKey × ℕ)) : Type 0 where
  pub in_order : places ≡ map place_in servers
  pub rise : T (is_sorted key_cmp servers)
  pub index : IsIndex key_cmp server_in leased servers

-- The places of the free targets, of the generations and of the servers are those of this table, the servers' in the order of their keys
abbrev pub HasLookUps : LeaseTable → List (ℕ × Unit {0}) → List (ℕ × ℕ) → List ℕ → Type 0
HasLookUps t free generations places = (servers : List (ServerKey × ℕ)) × (places ≡ map place_in servers)
    × HasOrderedLists t free generations servers
