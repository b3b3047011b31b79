-- What a head says of the body behind it (RFC 9112, section 6) and of the revision that its sender has seen, and when
-- that is refused.
use Rattle.std.specs.Prelude.{ℕ, Bool, true, false, ◌^◌, ◌-◌, nat_le, if◌then◌else◌, List, [], ◌∷◌, Option, Some, None, Result, Ok, Err}
use Rattle.std.specs.Prelude.{codes}
use Rattle.std.specs.List.{list_any}
use Rattle.http_wire.specs.declared.error.WireError.{WireError}
use Rattle.http_wire.specs.declared.error.WireError.TheVariants.{BadHead, TooLarge, Coding}
use Rattle.http_wire.specs.declared.decimal.Decimal.{Decimal}
use Rattle.http_wire.specs.declared.decimal.Decimal.TheVariants.{Number, Past, Other}
use Rattle.http_wire.specs.declared.head.Header.{Header}
use Rattle.http_wire.specs.Decimal.{number_in}
use Rattle.http_wire.specs.Fields.{is_named, values_of}

-- a body has at most so many bytes
abbrev pub body_limit : ℕ
body_limit = 1048576

-- the one number that the values of the headers of a name say; two headers are no number
abbrev pub number_said : List (List ℕ) → Option Decimal
number_said [] = None
number_said (value ∷ []) = Some (number_in value)
number_said (value ∷ other ∷ values) = Some Other

-- what the `Content-Length` headers say
abbrev pub length_said : List Header → Option Decimal
length_said headers = number_said (values_of (codes "content-length") headers)

-- what the `X-Hub-Seen` headers say
abbrev pub seen_said : List Header → Option Decimal
seen_said headers = number_said (values_of (codes "x-hub-seen") headers)

-- a `Transfer-Encoding` stands in the head
abbrev pub has_coding : List Header → Bool
has_coding headers = list_any (is_named (codes "transfer-encoding")) headers

-- the length that a number says
abbrev pub as_length : Option Decimal → Result (Option ℕ) WireError
as_length None = Ok None
as_length (Some (Number n)) = Ok (Some n)
as_length (Some Past) = Err (TooLarge (2 ^ 64 - 1))
as_length (Some Other) = Err BadHead

-- the revision that a number says
abbrev pub as_seen : Option Decimal → Option ℕ
as_seen None = None
as_seen (Some (Number n)) = Some n
as_seen (Some Past) = None
as_seen (Some Other) = None

-- how many bytes follow the head, or why it is refused: the first of these that applies
abbrev pub due : Option Decimal → Option Decimal → Bool → Result ℕ WireError
due (Some Other) seen coding = Err BadHead
due said (Some Other) coding = Err BadHead
due said (Some Past) coding = Err BadHead
due said seen true = Err Coding
due (Some Past) seen false = Err (TooLarge (2 ^ 64 - 1))
due (Some (Number n)) seen false = if nat_le n body_limit then Ok n else Err (TooLarge n)
due None seen false = Ok 0

-- the same of a head's headers
abbrev pub body_due : List Header → Result ℕ WireError
body_due headers = due (length_said headers) (seen_said headers) (has_coding headers)
