-- A number in decimal digits, which may begin with zeros.
use Rattle.std.specs.Prelude.{ℕ, Bool, ◌&&◌, ◌^◌, nat_lt, if◌then◌else◌, List, length}
use Rattle.std.specs.Char.{is_ascii_digit}
use Rattle.std.specs.List.{list_all}
use Rattle.std.specs.Str.Parse.{digits_value}
use Rattle.http_wire.specs.declared.decimal.Decimal.{Decimal}
use Rattle.http_wire.specs.declared.decimal.Decimal.TheVariants.{Number, Past, Other}

-- one decimal digit or more
abbrev pub is_decimal : List ℕ → Bool
is_decimal bytes = nat_lt 0 (length bytes) && list_all is_ascii_digit bytes

-- the number that the bytes are
abbrev pub number_in : List ℕ → Decimal
number_in bytes =
    if is_decimal bytes then (if nat_lt (digits_value 10 bytes) (2 ^ 64) then Number (digits_value 10 bytes) else Past)
    else Other
