-- When targets make a pool, as a test.
use Rattle.std.proofs.Common.{◌≡◌, ◌≤◌, ◌<◌, ◌⊎◌, inl, inr, ℕ, Bool, true, false, ◌&&◌, List, length, nat_le, Option, Some, None, ap, sym, ◌∙◌, refl, ⊎_elim, rules}
use Rattle.std.specs.Prelude.{MatchOption}
use Rattle.std.proofs.lemmas.Bool.{cases_Bool, cond-true, cond-false}
use Rattle.server_life.specs.Pools.{IsPool, are_distinct}
use Rattle.hub_config.proofs.Distinct.{pool_of, many, twice}
use Rattle.hub_config.specs.Places.{is_pool, pool_from}

both_true : (a b : Bool) → (a && b) ≡ true → (a ≡ true) × (b ≡ true)
both_true true b h = (refl, h)
both_true false b h = cc

few : (n : ℕ) → nat_le n 1000 ≡ true → n ≤ 1000
few n h = search (rules, h)

more : (n : ℕ) → nat_le n 1000 ≡ false → 1000 < n
more n h = search (rules, h)

makes_pool : (ts : List (List ℕ)) → is_pool ts ≡ true → IsPool ts
makes_pool ts h = let parts = both_true (nat_le (length ts) 1000) (are_distinct ts) h in pool_of ts (few (length ts) parts.0) parts.1

none_with : (ts : List (List ℕ)) (a : Bool) → nat_le (length ts) 1000 ≡ a → (a && are_distinct ts) ≡ false → IsPool ts → ⊥
none_with ts true e h p = twice ts h p
none_with ts false e h p = many ts (more (length ts) e) p

makes_none : (ts : List (List ℕ)) → is_pool ts ≡ false → IsPool ts → ⊥
makes_none ts h p = none_with ts (nat_le (length ts) 1000) refl h p

is_tested : (ts : List (List ℕ)) → IsPool ts → is_pool ts ≡ true
is_tested ts p = ⊎_elim (λ yes. yes) (λ no. absurd (makes_none ts no p)) (cases_Bool (is_pool ts))

not_tested : (ts : List (List ℕ)) → (IsPool ts → ⊥) → is_pool ts ≡ false
not_tested ts none = ⊎_elim (λ yes. absurd (none (makes_pool ts yes))) (λ no. no) (cases_Bool (is_pool ts))

pub pool_made : (ts : List (List ℕ)) (made : Option (List (List ℕ))) → MatchOption made (IsPool ts → ⊥) (λ pool. (pool ≡ ts) × IsPool ts) → made ≡ pool_from ts
pool_made ts None h = sym (cond-false _ _ _ (not_tested ts h))
pool_made ts (Some pool) h = ap Some h.0 ∙ sym (cond-true _ _ _ (is_tested ts h.1))
