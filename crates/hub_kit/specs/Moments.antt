-- What a moment is: a number of seconds up to the greatest.
use Rattle.std.specs.Prelude.{ℕ, min, nat_le, Option, Some, None, if◌then◌else◌}

abbrev pub greatest : ℕ
greatest = 250000000000

-- the moment of a number of seconds
abbrev pub moment_of : ℕ → Option ℕ
moment_of seconds = if nat_le seconds greatest then Some seconds else None

-- a number of seconds, or the greatest moment where they pass it
abbrev pub capped : ℕ → ℕ
capped seconds = min seconds greatest
