-- Which generations of servers may run, where a spawner tells them: no others do.
use Rattle.std.specs.Prelude.{◌≡◌, ℕ, ◌==◌, Bool, true, List, Option, Some, if◌then◌else◌}
use Rattle.std.specs.List.{list_any}

-- whether the generation is one of these
abbrev pub runs : List ℕ → ℕ → Bool
runs generations g = list_any (λ n. n == g) generations

-- of this generation it is so now, and of each other one it is as before
pub record Sets (before : Option (List ℕ)) (g : ℕ) (now : Bool) (after : Option (List ℕ)) : Type 0 where
  pub sets : (old : List ℕ) → before ≡ Some old
      → (new : List ℕ) × (after ≡ Some new) × ((h : ℕ) → runs new h ≡ (if h == g then now else runs old h))

-- that it runs was told only of a generation that may run
pub record IsTold (may_run : Option (List ℕ)) (g : ℕ) (told : Bool) : Type 0 where
  pub may : (generations : List ℕ) → may_run ≡ Some generations → told ≡ true → runs generations g ≡ true
