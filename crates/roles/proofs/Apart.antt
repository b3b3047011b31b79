-- The held entry stays apart from those of the list.
use Rattle.std.proofs.Common.{◌≡◌, ℕ, Bool, true, false, nat_eq, List, Option, Some, None, IsSome, Contains, refl, sym, ap, ◌∙◌, subst}
use Rattle.std.specs.Cmp.{nat_eq_equiv}
use Rattle.std.specs.Map.{lookup}
use Rattle.lru.proofs.Matching.{none_found}
use Rattle.roles.specs.declared.cache.KeptGrant.{KeptGrant}
use Rattle.roles.specs.Looks.{Entry}

none_held : {X : Type 0} (x : X) → None ≡ Some x → ⊥
none_held x h = cc

-- nothing is held
pub none_apart : (es : List Entry) (held : Option Entry) → held ≡ None → (id : ℕ) (kept other : KeptGrant) → held ≡ Some (id, kept) → Contains es (id, other) → ⊥
none_apart es held none id kept other h there = none_held (id, kept) (sym none ∙ h)

-- the same is held, beside no more entries
pub fewer_apart : (es fs : List Entry) (held after : Option Entry) → ((e : Entry) → Contains fs e → Contains es e) → after ≡ held
    → ((id : ℕ) (kept other : KeptGrant) → held ≡ Some (id, kept) → Contains es (id, other) → ⊥)
    → (id : ℕ) (kept other : KeptGrant) → after ≡ Some (id, kept) → Contains fs (id, other) → ⊥
fewer_apart es fs held after fewer same apart id kept other h there = apart id kept other (sym same ∙ h) (fewer (id, other) there)

true_false : (b : Bool) → b ≡ true → b ≡ false → ⊥
true_false b h k = cc

same_entry : (p q : Entry) → Some p ≡ Some q → p ≡ q
same_entry p q h = cc

clash : false ≡ true → ⊥
clash h = cc

not_some : {X : Type 0} (o : Option X) → (IsSome o → false ≡ true) → o ≡ None
not_some None h = refl
not_some (Some x) h = absurd (clash (h refl))

-- an entry is held that the list has no room for
pub held_apart : (es fs : List Entry) (id : ℕ) (entry : Entry) (held : Option Entry) → held ≡ Some entry → entry.0 ≡ id → fs ≡ es → (IsSome (lookup (nat_eq id) es) → false ≡ true)
    → (j : ℕ) (kept other : KeptGrant) → held ≡ Some (j, kept) → Contains fs (j, other) → ⊥
held_apart es fs id entry held is first e none j kept other h there =
    let same : id ≡ j = sym first ∙ ap (λ (p : Entry). p.0) (same_entry entry (j, kept) (sym is ∙ h)) in
    true_false (nat_eq id j) (ap (nat_eq id) (sym same) ∙ nat_eq_equiv.refl id)
    (none_found (nat_eq id) es (not_some (lookup (nat_eq id) es) none) (j, other) (subst (λ (l : List Entry). Contains l (j, other)) e there))
