-- What came from a source, behind what was kept.
use Rattle.std.specs.Prelude.{◌≡◌, ℕ, List, ◌++◌, Option}
use Rattle.hub_devices.specs.Streams.{Takes}

-- what was kept and then what was taken from the source are these bytes
pub record Took (before : Option (List ℕ)) (kept : List ℕ) (after : Option (List ℕ)) (bytes : List ℕ) : Type 0 where
  pub taken : List ℕ
  pub takes : Takes before taken after
  pub whole : kept ++ taken ≡ bytes
