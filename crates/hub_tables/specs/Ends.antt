-- Rows that last until an end.
use Rattle.std.specs.Prelude.{ℕ, Bool, false, nat_le, Option, Some, None}

-- from its end on a row is over; without an end it never is
abbrev pub is_over : ℕ → Option ℕ → Bool
is_over now None = false
is_over now (Some end) = nat_le end now
