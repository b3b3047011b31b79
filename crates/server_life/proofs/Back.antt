-- The last generation is given back.
use Rattle.std.proofs.Common.{ℕ, ◌≡◌, ◌≢◌, ◌+◌, ◌<◌, ◌≤◌, Bool, true, false, List, set, subst, arith}
use Rattle.std.proofs.Common.{inl, inr}
use Rattle.std.specs.Prelude.{MatchBool, None, Some}
use Rattle.server_life.specs.declared.leases.Held.{Held}
use Rattle.server_life.proofs.Places.{get_set}
use Rattle.hub_kit.specs.declared.names.ServerKey.{ServerKey}
use Rattle.server_life.specs.Leased.{HoldsLease, IsNotLive}
use Rattle.server_life.specs.LeaseTable.{LeaseTable, IsOneToOne}
use Rattle.server_life.specs.LeaseIndex.{HasOrderedLists}

none_held : (h : Held) → None ≡ Some h → ⊥
none_held h e = cc

pub lowered : (t : LeaseTable) (free : List (ℕ × Unit {0})) (gens : List (ℕ × ℕ)) (servers : List (ServerKey × ℕ)) (g : ℕ)
    → HasOrderedLists t free gens servers → IsNotLive t.leased g → g + 1 ≡ t.next → 1 ≤ g → HasOrderedLists (record { pool = t.pool; leased = t.leased; next = g }) free gens servers
lowered t free gens servers g x n e a = record {
  one = record {
    places = x.one.places;
    small = x.one.small;
    above = a;
    distinct = x.one.distinct;
    below = λ i h k p.
        let under : h < t.next = x.one.below i h k p in
        let apart : h ≢ g = (λ s. n i k (subst (λ (y : ℕ). HoldsLease t.leased i y k) s p)) in
        omega (arith, under, e, apart);
    generations = x.one.generations;
    servers = x.one.servers;
  };
  free_rise = x.free_rise;
  free_places = x.free_places;
  generations_rise = x.generations_rise;
  of_generations = x.of_generations;
  servers_rise = x.servers_rise;
  of_servers = x.of_servers;
  all_generations = x.all_generations;
  all_servers = x.all_servers;
}

-- what the end of a lease that stands at a place leaves
pub freed_at : (t u : LeaseTable) (at g : ℕ) (key : ServerKey) (done : Bool) → IsOneToOne t → HoldsLease t.leased at g key
    → MatchBool done ((i : ℕ) × (key : ServerKey) × HoldsLease t.leased i g key × (u ≡ record { pool = t.pool; leased = set t.leased i None; next = t.next })) (IsNotLive t.leased g × (u ≡ t))
    → u ≡ record { pool = t.pool; leased = set t.leased at None; next = t.next }
freed_at t u at g key true one holds (i, k, h, e) = subst (λ (j : ℕ). u ≡ record { pool = t.pool; leased = set t.leased j None; next = t.next }) (one.generations i at g k key h holds) e
freed_at t u at g key false one holds h = absurd (h.0 at key holds)

-- no other place has the generation
pub gone_at : (t : LeaseTable) (at g : ℕ) (key : ServerKey) → IsOneToOne t → HoldsLease t.leased at g key → IsNotLive (set t.leased at None) g
gone_at t at g key one holds = λ j k h. elim (get_set t.leased at None j (Some (record { generation = g; server = k })) h) [
  | inl x ↦ none_held (record { generation = g; server = k }) x.1
  | inr x ↦ x.0 (one.generations at j g key k holds x.1)
]
