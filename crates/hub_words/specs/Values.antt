-- The forms of the values of arguments.
use Rattle.std.specs.Prelude.{ℕ, ◌^◌, Bool, ◌&&◌, nat_le, nat_lt, List, length, Option, Some, None, option_and_then, if◌then◌else◌}
use Rattle.std.specs.Char.{is_ascii_digit}
use Rattle.std.specs.List.{list_all}
use Rattle.std.specs.Result.{result_ok}
use Rattle.std.specs.Str.Parse.{digits_value}
use Rattle.addresses.specs.Addresses.{is_visible}
use Rattle.hub_kit.specs.Moments.{moment_of}
use Rattle.hub_kit.specs.Names.{name_read}
use Rattle.hub_kit.specs.ServerKeys.{key_read}
use Rattle.hub_kit.specs.declared.names.ServerKey.{ServerKey}

-- ---- numbers

abbrev pub are_digits : List ℕ → Bool
are_digits bytes = list_all is_ascii_digit bytes

-- 1 to 20 decimal digits
abbrev pub is_number : List ℕ → Bool
is_number bytes = nat_le 1 (length bytes) && nat_le (length bytes) 20 && are_digits bytes

-- the number, where a `u64` holds it
abbrev pub number_of : ℕ → Option ℕ
number_of n = if nat_lt n (2 ^ 64) then Some n else None

abbrev pub number_in : List ℕ → Option ℕ
number_in bytes = if is_number bytes then number_of (digits_value 10 bytes) else None

-- the number, where it is within these bounds
abbrev pub within : ℕ → ℕ → ℕ → Option ℕ
within least most n = if nat_le least n && nat_le n most then Some n else None

-- the moment with this number of seconds
abbrev pub moment_in : List ℕ → Option ℕ
moment_in bytes = option_and_then moment_of (number_in bytes)

-- ---- names and secrets

abbrev pub user_in : List ℕ → Option (List ℕ)
user_in bytes = result_ok (name_read bytes)

abbrev pub key_in : List ℕ → Option ServerKey
key_in bytes = result_ok (key_read bytes)

abbrev pub are_visible : List ℕ → Bool
are_visible bytes = list_all is_visible bytes

-- 8 to 255 visible ASCII bytes
abbrev pub is_secret : List ℕ → Bool
is_secret bytes = nat_le 8 (length bytes) && nat_le (length bytes) 255 && are_visible bytes

abbrev pub secret_in : List ℕ → Option (List ℕ)
secret_in bytes = if is_secret bytes then Some bytes else None
