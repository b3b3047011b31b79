-- Which generations may run after calls of one.
use Rattle.std.proofs.Common.{◌≡◌, ◌≢◌, ℕ, ◌==◌, Bool, true, false, List, Option, Some, refl, sym, ap, ◌∙◌, if◌then◌else◌}
use Rattle.std.proofs.lemmas.Bool.{eqb-true, eq-eqb}
use Rattle.hub_devices.specs.Running.{runs, Sets}
use Rattle.server_work.specs.Runs.{KeepsOthers}

pub keeps_same : (before : Option (List ℕ)) (g : ℕ) (after : Option (List ℕ)) → after ≡ before → KeepsOthers before g after
keeps_same before g after same = record { keeps = λ old told. (old, same ∙ told, λ h _. refl) }

at_other : (b : Bool) (h g : ℕ) (now was : Bool) → (h == g) ≡ b → h ≢ g → (if b then now else was) ≡ was
at_other true h g now was e ne = absurd (ne (eqb-true h g e))
at_other false h g now was e ne = refl

pub sets_keeps : (before : Option (List ℕ)) (g : ℕ) (now : Bool) (after : Option (List ℕ)) → Sets before g now after → KeepsOthers before g after
sets_keeps before g now after s = record {
  keeps = λ old told. let n = s.sets old told in (n.0, n.1, λ h ne. n.2 h ∙ at_other (h == g) h g now (runs old h) refl ne);
}

pub keeps_then : (a b c : Option (List ℕ)) (g : ℕ) → KeepsOthers a g b → KeepsOthers b g c → KeepsOthers a g c
keeps_then a b c g one two = record {
  keeps = λ old told.
      let m = one.keeps old told in
      let n = two.keeps m.0 m.1 in
      (n.0, n.1, λ h ne. n.2 h ne ∙ m.2 h ne);
}

at_each : (b : Bool) (h g : ℕ) (now x y : Bool) → (h == g) ≡ b → (h ≢ g → x ≡ y) → (if b then now else x) ≡ (if b then now else y)
at_each true h g now x y e same = refl
at_each false h g now x y e same = same (λ is. absurd (cc (e, eq-eqb h g is)))

pub keeps_sets : (a b c : Option (List ℕ)) (g : ℕ) (now : Bool) → KeepsOthers a g b → Sets b g now c → Sets a g now c
keeps_sets a b c g now one two = record {
  sets = λ old told.
      let m = one.keeps old told in
      let n = two.sets m.0 m.1 in
      (n.0, n.1, λ h. n.2 h ∙ at_each (h == g) h g now (runs m.0 h) (runs old h) refl (m.2 h));
}
