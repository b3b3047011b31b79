-- Lemmas on the workers of a proxy.
use Rattle.std.proofs.Common.{◌≡◌, ◌⊎◌, inl, inr, ℕ, List, [], length, map, reverse, All, refl, ap, ◌∙◌, subst, sym}
use Rattle.std.specs.FinMap.{empty}
use Rattle.atomic_table.specs.Seated.{TableId}
use Rattle.desk.specs.Passes.{PassState, opening}
use Rattle.route_table.specs.Table.{Table}
use Rattle.route_desk.specs.declared.step.Step.{Step}
use Rattle.worker_hall.specs.Shifts.{AreServed}
use Rattle.worker_hall.proofs.ShiftLemmas.{served_long}
use Rattle.proxy_serving.specs.Workers.{IsUnused, KitsServed, OverOneTable, most_paths, split_from}

-- what is split off the first pass of a new table was never used
pub opened_unused : (desk : TableId) (table : Table) (p : PassState Step Table) → p ≡ opening desk table [] 0 → table.rows ≡ empty → table.limit ≡ most_paths
    → IsUnused (split_from p)
opened_unused desk table p is bare limit = record {
  table = table;
  base = ap (λ q. q.base) is;
  bare = bare;
  limit = limit;
  seen = ap (λ q. q.seen) is;
  mine = refl;
}

pub over_one : (forwarded answered : PassState Step Table → Type 0) (idle : Type 0) (p : PassState Step Table) → IsUnused p
    → idle ⊎ (forwarded p × answered p) → idle ⊎ OverOneTable forwarded answered
over_one forwarded answered idle p unused (inl h) = inl h
over_one forwarded answered idle p unused (inr h) = inr (record { pass = p; unused = unused; by_forwarders = h.0; by_servers = h.1 })

-- servers that served, and gave their kits back
pub kits_back : {S K : Type 0} (serve : List S → ℕ → List S → Type 0) (Begins : S → Type 0) (kit : S → K) (kits kits' : List K) (ss ss' : List S) (n : ℕ)
    → All Begins ss → kits ≡ reverse (map kit ss) → serve ss n ss' → kits' ≡ reverse (map kit ss') → KitsServed serve Begins kit kits n kits'
kits_back serve Begins kit kits kits' ss ss' n begin had are gave =
    record { servers = ss; left = ss'; begin = begin; had = had; served = are; gave = gave }

-- as many forwarders are left as there were
pub long_or_idle : {F I O : Type 0} (are_sides : I → O → Type 0) (served : F → I → O → F → I → O → Type 0) (A B C D : Type 0) (fs fs' : List F) (n : ℕ)
    → (A × B × (fs' ≡ fs) × C) ⊎ (AreServed are_sides served fs n fs' × D) → length fs' ≡ length fs
long_or_idle are_sides served A B C D fs fs' n (inl h) = ap length h.2
long_or_idle are_sides served A B C D fs fs' n (inr h) = served_long are_sides served fs n fs' h.0

-- forwarders that gave their kits back, where the servers of the interface may never have begun
module _ {F K S C : Type 0} (forward : List F → ℕ → List F → Type 0) (answer : List S → ℕ → List S → Type 0) (Forwards : PassState Step Table → F → Type 0)
    (Answers : PassState Step Table → S → Type 0) (kit : F → K) (clock : S → C) where
  pub forwarders_back : (kits kits' : List K) (clocks clocks' : List C) (fs fs' : List F) (n m : ℕ) (p q : PassState Step Table) → p ≡ q → All (Forwards q) fs
      → kits ≡ reverse (map kit fs) → kits' ≡ reverse (map kit fs')
      → ((n ≡ 0) × (m ≡ 0) × (fs' ≡ fs) × (clocks' ≡ clocks)) ⊎ (forward fs n fs' × KitsServed answer (Answers p) clock clocks m clocks')
      → ((n ≡ 0) × (m ≡ 0) × (kits' ≡ kits) × (clocks' ≡ clocks))
      ⊎ (KitsServed forward (Forwards q) kit kits n kits' × KitsServed answer (Answers q) clock clocks m clocks')
  forwarders_back kits kits' clocks clocks' fs fs' n m p q same begin had gave (inl h) =
      inl (h.0, h.1, gave ∙ ap (λ l. reverse (map kit l)) h.2 ∙ sym had, h.3)
  forwarders_back kits kits' clocks clocks' fs fs' n m p q same begin had gave (inr h) =
      inr (
        kits_back forward (Forwards q) kit kits kits' fs fs' n begin had h.0 gave,
        subst (λ r. KitsServed answer (Answers r) clock clocks m clocks') same h.1,
      )
