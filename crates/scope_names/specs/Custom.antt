-- The names of custom scopes: `custom:` and then 1 to 57 bytes of a-z, 0-9, '_', '-', '*', ':', of which the first is a
-- letter or a digit, and the last neither '-' nor ':'.
use Rattle.std.specs.Prelude.{ℕ, ◌-◌, Bool, not, ◌||◌, ◌&&◌, ◌==◌, nat_le, nat_eq, List, length, take, drop, slice_index, codes, Option}
use Rattle.std.specs.Prelude.{Some, None, if◌then◌else◌}
use Rattle.std.specs.List.{list_all}
use Rattle.std.specs.Cmp.Lexicographic.{pointwise}
use Rattle.hub_kit.specs.Names.{is_letter_or_digit}

abbrev pub is_custom_byte : ℕ → Bool
is_custom_byte b = is_letter_or_digit b || (b == 95) || (b == 45) || (b == 42) || (b == 58)

-- neither '-' nor ':'
abbrev pub is_last_byte : ℕ → Bool
is_last_byte b = not ((b == 45) || (b == 58))

-- the first and the last byte are right. Without any bytes they count as 0, which is no letter
abbrev pub ends_well : List ℕ → Bool
ends_well bytes = is_letter_or_digit (slice_index bytes 0) && is_last_byte (slice_index bytes (length bytes - 1))

-- what stands behind `custom:`
abbrev pub is_custom_rest : List ℕ → Bool
is_custom_rest bytes = nat_le (length bytes) 57 && ends_well bytes && list_all is_custom_byte bytes

abbrev pub is_custom_name : List ℕ → Bool
is_custom_name bytes = pointwise nat_eq (take 7 bytes) (codes "custom:") && is_custom_rest (drop 7 bytes)

-- what reading a custom name gives
abbrev pub custom_read : List ℕ → Option (List ℕ)
custom_read bytes = if is_custom_name bytes then Some bytes else None
