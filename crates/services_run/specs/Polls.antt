-- The answers of programs in memory.
use Rattle.std.specs.Prelude.{ℕ, ◌+◌, Bool, false, List, length, nat_lt, if◌then◌else◌, slice_get, Option, Some, None}

-- The answer that may lack, which is false then
abbrev pub answer : Option Bool → Bool
answer None = false
answer (Some b) = b

-- the answer at a place of the list, and false past it
abbrev pub answer_at : List Bool → ℕ → Bool
answer_at answers at = answer (slice_get answers at)

-- the place of the answer after it
abbrev pub next_place : List Bool → ℕ → ℕ
next_place answers at = if nat_lt at (length answers) then at + 1 else at
