-- What a guard has outside, where it is told.
use Rattle.std.specs.Prelude.{ℕ, List, Option}

-- how many connections its listener has given, what stands on its output, and how often either has failed
pub record Hall : Type 0 where
  pub given : Option ℕ
  pub held : Option (List ℕ)
  pub accepts : ℕ
  pub writes : ℕ

-- What a listener and an output tell. The first four arguments say of each kind how it tells it: the connections given and the faults, what
-- stands on it and the faults; the last two are the listener and the output
abbrev pub hall : {L O : Type 0} → (L → Option ℕ) → (L → ℕ) → (O → Option (List ℕ)) → (O → ℕ) → L → O → Hall
hall given accepts held writes doors output =
    record { given = given doors; held = held output; accepts = accepts doors; writes = writes output }
