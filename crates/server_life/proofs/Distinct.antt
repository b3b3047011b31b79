-- Targets of which none stands twice, as a test and by their places.
use Rattle.std.proofs.Common.{ℕ, zero, suc, ◌≡◌, ◌≢◌, ◌+◌, ◌<◌, ◌≤◌, Bool, true, false, not, ◌&&◌, ◌||◌, List, [], ◌∷◌, length, get_or, drop, refl, ap, sym, ◌∙◌, add-one, arith, drop-cons}
use Rattle.std.specs.Prelude.{AllPairs}
use Rattle.std.specs.List.{list_any}
use Rattle.std.specs.Cmp.Lexicographic.{same_text, other_text}
use Rattle.hub_kit.specs.declared.target.Target.{Target}
use Rattle.server_life.specs.Pools.{IsPool, are_distinct, same_target}

pub distinct_turn : (targets : List Target) (i : ℕ) (target : Target) → i < length targets → target ≡ get_or targets i target
    → are_distinct (drop i targets) ≡ are_distinct (target ∷ drop (i + 1) targets)
distinct_turn targets i target below is =
    ap are_distinct (drop-cons targets i target below ∙ ap (λ (t : Target). t ∷ drop (suc i) targets) (sym is))
    ∙ ap (λ (k : ℕ). are_distinct (target ∷ drop k targets)) (sym (add-one i))

and_true : (a b : Bool) → (a && b) ≡ true → (a ≡ true) × (b ≡ true)
and_true true b h = (refl, h)
and_true false b h = cc

not_true : (b : Bool) → not b ≡ true → b ≡ false
not_true true h = cc
not_true false h = refl

or_false : (a b : Bool) → (a || b) ≡ false → (a ≡ false) × (b ≡ false)
or_false true b h = cc
or_false false b h = (refl, h)

clash : (b : Bool) → b ≡ true → b ≡ false → ⊥
clash b h k = cc

-- none of these is the target
none_is : (t : Target) (ts : List Target) → list_any (same_target t) ts ≡ false → (j : ℕ) (d : Target) → j < length ts → t ≡ get_or ts j d → ⊥
none_is t [] h j d lt e = omega arith
none_is t (x ∷ ts) h zero d lt e = other_text t x (sym (or_false (same_target t x) _ h).0) e
none_is t (x ∷ ts) h (suc j) d lt e = none_is t ts (or_false (same_target t x) _ h).1 j d (omega arith) e

-- one of these is the target
one_is : (t : Target) (ts : List Target) → list_any (same_target t) ts ≡ true → (j : ℕ) × (j < length ts) × (t ≡ get_or ts j t)
one_is t [] h = cc
one_is t (x ∷ ts) h = elim (same_target t x) as (λ b. same_target t x ≡ b → (b || list_any (same_target t) ts) ≡ true → (j : ℕ) × (j < suc (length ts)) × (t ≡ get_or (x ∷ ts) j t)) [
  | true ↦ λ e f. (zero, omega arith, same_text t x (sym e))
  | false ↦ λ e f. let rest = one_is t ts f in let lt : rest.0 < length ts = rest.1 in (suc rest.0, omega arith, rest.2)
] refl h

apart : (ts : List Target) → are_distinct ts ≡ true → AllPairs (λ (a b : Target). a ≢ b) ts
apart [] h i j d lt within = λ e. omega arith
apart (t ∷ ts) h zero zero d lt within = λ e. omega arith
apart (t ∷ ts) h zero (suc j) d lt within = none_is t ts (not_true _ (and_true _ _ h).0) j d (omega arith)
apart (t ∷ ts) h (suc i) zero d lt within = λ e. omega arith
apart (t ∷ ts) h (suc i) (suc j) d lt within = apart ts (and_true _ _ h).1 i j d (omega arith) (omega arith)

tested : (ts : List Target) → AllPairs (λ (a b : Target). a ≢ b) ts → are_distinct ts ≡ true
tested [] h = refl
tested (t ∷ ts) h = elim (list_any (same_target t) ts) as (λ b. list_any (same_target t) ts ≡ b → (not b && are_distinct ts) ≡ true) [
  | true ↦ λ e. let one = one_is t ts e in let lt : one.0 < length ts = one.1 in absurd (h zero (suc one.0) t (omega arith) (omega arith) one.2)
  | false ↦ λ e. tested ts (λ i j d lt within. h (suc i) (suc j) d (omega arith) (omega arith))
] refl

pub pool_of : (ts : List Target) → length ts ≤ 1000 → are_distinct ts ≡ true → IsPool ts
pool_of ts few h = record { few = few; distinct = apart ts h }

pub many : (ts : List Target) → 1000 < length ts → IsPool ts → ⊥
many ts more p = let few = p.few in omega (arith, few)

pub twice : (ts : List Target) → are_distinct ts ≡ false → IsPool ts → ⊥
twice ts h p = clash _ (tested ts p.distinct) h
