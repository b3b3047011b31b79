-- Which programs a chain leaves.
use Rattle.std.specs.Prelude.{◌≡◌, ◌≢◌, ℕ, List, Option, Some}
use Rattle.hub_devices.specs.Running.{runs}

-- where the spawner tells which generations may run it still does, and of each other generation it is as before
pub record KeepsOthers (before : Option (List ℕ)) (g : ℕ) (after : Option (List ℕ)) : Type 0 where
  pub keeps : (old : List ℕ) → before ≡ Some old → (new : List ℕ) × (after ≡ Some new) × ((h : ℕ) → h ≢ g → runs new h ≡ runs old h)
