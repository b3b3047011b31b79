-- The services of a configuration have names and targets of their own.
use Rattle.std.proofs.Common.{◌≡◌, ◌<◌, ◌⊎◌, inl, inr, ℕ, zero, suc, Bool, true, false, not, ◌&&◌, ◌||◌, bytes_eq, List, [], ◌∷◌, Some, slice_get, map, refl, sym, ap, ◌∙◌, subst, arith}
use Rattle.std.specs.List.{list_any}
use Rattle.std.proofs.lemmas.Slice.Eq.{bytes_eq-Decides}
use Rattle.hub_config.specs.Managed.{are_distinct, clash}
use Rattle.hub_config.specs.declared.config.ConfigManaged.{ConfigManaged}
use Rattle.services_run.specs.New.{Clashes, ClashAt, IsRepeated}
use Rattle.services_run.specs.declared.place.Managed.{Managed}
use Rattle.hub_serving.specs.Services.{service_of}

and_true : (a b : Bool) → (a && b) ≡ true → (a ≡ true) × (b ≡ true)
and_true true b h = (refl, h)
and_true false b h = cc

not_true : (b : Bool) → not b ≡ true → b ≡ false
not_true true h = cc
not_true false h = refl

or_false : (a b : Bool) → (a || b) ≡ false → (a ≡ false) × (b ≡ false)
or_false true b h = cc
or_false false b h = (refl, h)

unlike : (b : Bool) → b ≡ true → b ≡ false → ⊥
unlike b t f = cc

some_same : {A : Type 0} (x y : A) → Some x ≡ Some y → x ≡ y
some_same x y e = cc

-- two that don't clash have two names and two targets
no_clash : (a b : ConfigManaged) → clash a b ≡ false → Clashes (service_of a) (service_of b) → ⊥
no_clash a b h (inl names) = unlike _ ((bytes_eq-Decides a.name b.name).1 names) (or_false (bytes_eq a.name b.name) _ h).0
no_clash a b h (inr targets) = unlike _ ((bytes_eq-Decides a.target b.target).1 targets) (or_false (bytes_eq a.name b.name) _ h).1

-- nor does the first with any of the others
first_apart : (c : ConfigManaged) (cs : List ConfigManaged) (i : ℕ) (b : Managed) → list_any (clash c) cs ≡ false
    → slice_get (map service_of cs) i ≡ Some b → Clashes (service_of c) b → ⊥
first_apart c [] i b h get clashes = cc
first_apart c (d ∷ cs) zero b h get clashes =
    no_clash c d (or_false (clash c d) _ h).0 (subst (λ (m : Managed). Clashes (service_of c) m) (sym (some_same (service_of d) b get)) clashes)
first_apart c (d ∷ cs) (suc i) b h get clashes = first_apart c cs i b (or_false (clash c d) _ h).1 get clashes

pub none_repeated : (cs : List ConfigManaged) → are_distinct cs ≡ true → (i : ℕ) → ¬ (IsRepeated (map service_of cs) i)
none_repeated [] h i (j, less, (a, b, at, there, clashes)) = cc
none_repeated (c ∷ cs) h zero (j, less, (a, b, at, there, clashes)) = omega (arith, less)
none_repeated (c ∷ cs) h (suc i) (zero, less, (a, b, at, there, clashes)) =
    first_apart c cs i b (not_true _ (and_true _ _ h).0) there
    (subst (λ (m : Managed). Clashes m b) (sym (some_same (service_of c) a at)) clashes)
none_repeated (c ∷ cs) h (suc i) (suc j, less, (a, b, at, there, clashes)) =
    none_repeated cs (and_true _ _ h).1 i (j, omega (arith, less), (a, b, at, there, clashes))
