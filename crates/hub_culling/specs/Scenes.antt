-- What the command finds outside while it makes its rounds, and what it leaves there, where it is told.
use Rattle.std.specs.Prelude.{ℕ, List, Option}

-- the hub that is asked, the moments that the clock will give, the bytes written, and for how many seconds was waited
pub record Scene (L : Type 0) : Type 0 where
  pub link : L
  pub moments : Option (ℕ → ℕ)
  pub written : Option (List ℕ)
  pub waits : Option (List ℕ)

abbrev pub scene : {L C O R : Type 0} → (C → Option (ℕ → ℕ)) → (O → Option (List ℕ)) → (R → Option (List ℕ)) → L → C → O → R → Scene L
scene to_come held waits link clock output rest =
    record { link = link; moments = to_come clock; written = held output; waits = waits rest }
