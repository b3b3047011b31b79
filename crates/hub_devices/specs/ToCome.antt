-- What a device will give, one item a call.
use Rattle.std.specs.Prelude.{◌≡◌, ℕ, ◌+◌, Option, Some}

-- the number was the first to come, and the others are still to come
pub record Tells (before : Option (ℕ → ℕ)) (given : ℕ) (after : Option (ℕ → ℕ)) : Type 0 where
  pub next : (coming : ℕ → ℕ) → before ≡ Some coming → (given ≡ coming 0) × (after ≡ Some (λ k. coming (k + 1)))
