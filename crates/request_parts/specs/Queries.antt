-- The values of a query, and of a body that is a form (URL Standard, 5.1).
use Rattle.std.specs.Prelude.{ℕ, nat_lt, nat_eq, Bool, ◌&&◌, List, [], ◌∷◌, length, codes, bytes_eq, Option, Some, None, if◌then◌else◌}
use Rattle.std.specs.List.{starts_with}
use Rattle.std.specs.Str.Lossy.{utf8_lossy}
use Rattle.form_urlencoded.specs.Form.{raw_pairs, decode}
use Rattle.http_wire.specs.Decimal.{number_in}
use Rattle.http_wire.specs.declared.decimal.Decimal.{Decimal}
use Rattle.http_wire.specs.declared.decimal.Decimal.TheVariants.{Number, Past, Other}

-- what a key or a value stands for
abbrev pub text_of : List ℕ → List ℕ
text_of bytes = utf8_lossy (decode bytes)

-- the value of the first pair with a key
abbrev pub value_of : List ℕ → List (List ℕ × List ℕ) → Option (List ℕ)
value_of key [] = None
value_of key (pair ∷ rest) = if bytes_eq (text_of pair.0) key then Some (text_of pair.1) else value_of key rest

-- the first value of a key in a query or a form
unfoldable pub query_value : List ℕ → List ℕ → Option (List ℕ)
query_value key query = value_of key (raw_pairs query)

abbrev pub as_u64 : Decimal → Option ℕ
as_u64 (Number n) = Some n
as_u64 Past = None
as_u64 Other = None

-- the number of a `u64` that a text is in decimal digits
abbrev pub decimal_of : List ℕ → Option ℕ
decimal_of text = as_u64 (number_in text)

-- a zero in front of another digit
abbrev pub has_leading_zero : List ℕ → Bool
has_leading_zero text = nat_lt 1 (length text) && starts_with nat_eq text (codes "0")

-- the same where the digits have no leading zero
unfoldable pub plain_decimal_of : List ℕ → Option ℕ
plain_decimal_of text = if has_leading_zero text then None else decimal_of text

abbrev pub number_or : ℕ → Option (List ℕ) → Option ℕ
number_or default None = Some default
number_or default (Some text) = decimal_of text

-- the decimal number that is the first value of a key, or a default where the key is absent
unfoldable pub query_number : List ℕ → ℕ → List ℕ → Option ℕ
query_number key default query = number_or default (query_value key query)
