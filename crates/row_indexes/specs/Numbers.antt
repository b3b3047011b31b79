-- The number under which a text is looked for. Nothing rests on how it is made, but that each text has one.
use Rattle.std.specs.Prelude.{ℕ, ◌+◌, ◌*◌, ◌%◌, ◌^◌, List, [], ◌∷◌}

abbrev pub with_byte : (number byte : ℕ) → ℕ
with_byte number byte = (number * 1099511628211 % 2 ^ 64 + byte) % 2 ^ 64

abbrev pub number_from : ℕ → List ℕ → ℕ
number_from number [] = number
number_from number (byte ∷ bytes) = number_from (with_byte number byte) bytes

-- the bytes as the digits of a number in the base of that prime, in 64 bits
abbrev pub number_of : List ℕ → ℕ
number_of bytes = number_from 0 bytes
