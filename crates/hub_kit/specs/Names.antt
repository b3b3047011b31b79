-- What a name is: 1 to 64 bytes of a-z, 0-9, '.', '_', '-', '@', of which the first is a letter or a digit.
use Rattle.std.specs.Prelude.{◌≡◌, ℕ, ◌+◌, Bool, ◌||◌, ◌&&◌, ◌==◌, nat_le, nat_lt, List, [], ◌∷◌, length, Option, Some, None, Result, Ok}
use Rattle.std.specs.Prelude.{Err, if◌then◌else◌}
use Rattle.hub_kit.specs.declared.names.NameError.{NameError}
use Rattle.hub_kit.specs.declared.names.NameError.TheVariants.{Empty, TooLong, BadByte}

abbrev pub is_letter_or_digit : ℕ → Bool
is_letter_or_digit b = (nat_le 97 b && nat_le b 122) || (nat_le 48 b && nat_le b 57)

abbrev pub is_name_byte : ℕ → Bool
is_name_byte b = is_letter_or_digit b || (b == 46) || (b == 95) || (b == 45) || (b == 64)

-- the place of the first byte that breaks the grammar, the first of them standing at place at
abbrev pub bad_from : ℕ → List ℕ → Option ℕ
bad_from at [] = None
bad_from at (b ∷ bs) = if is_name_byte b then bad_from (at + 1) bs else Some at

abbrev pub first_bad : List ℕ → Option ℕ
first_bad [] = None
first_bad (b ∷ bs) = if is_letter_or_digit b then bad_from 1 bs else Some 0

abbrev pub bad_byte : List ℕ → Option ℕ → Result (List ℕ) NameError
bad_byte bytes None = Ok bytes
bad_byte bytes (Some at) = Err (BadByte at)

-- what reading a name gives
abbrev pub name_read : List ℕ → Result (List ℕ) NameError
name_read [] = Err Empty
name_read (b ∷ bs) = if nat_lt 64 (length (b ∷ bs)) then Err TooLong else bad_byte (b ∷ bs) (first_bad (b ∷ bs))

-- what reading a server's name gives
abbrev pub server_read : List ℕ → Result (List ℕ) NameError
server_read [] = Ok []
server_read (b ∷ bs) = name_read (b ∷ bs)

abbrev pub IsName : List ℕ → Type 0
IsName bytes = name_read bytes ≡ Ok bytes

-- a name, or nothing
abbrev pub IsServerName : List ℕ → Type 0
IsServerName [] = Unit {0}
IsServerName (b ∷ bs) = IsName (b ∷ bs)
