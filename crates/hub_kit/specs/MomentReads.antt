-- Moments that are read from texts.
use Rattle.std.specs.Prelude.{ℕ, ℤ, pos, negsuc, ◌/◌, Result, Ok, Err}
use Rattle.jiff.specs.Words.{Error}
use Rattle.hub_kit.specs.Moments.{capped}
use Rattle.hub_kit.specs.declared.moments.MomentError.{MomentError}
use Rattle.hub_kit.specs.declared.moments.MomentError.TheVariants.{BadText}

-- the moment of an instant's nanoseconds since 1970: its whole seconds, none before 1970 and none past the greatest
abbrev pub moment_at : ℤ → ℕ
moment_at (pos n) = capped (n / 1000000000)
moment_at (negsuc n) = 0

-- what reading a moment gives, where the text reads as this instant
abbrev pub moment_read : Result ℤ Error → Result ℕ MomentError
moment_read (Ok nanos) = Ok (moment_at nanos)
moment_read (Err e) = Err BadText
