-- How long a body is, by the head before it (RFC 9112, section 6.3).
use Rattle.std.specs.Prelude.{◌≡◌, ◌==◌, ◌||◌, ℕ, Bool, true, false, List, [], ◌∷◌, map, codes, Option, Some, None, Result, Ok, Err}
use Rattle.std.specs.Prelude.{if◌then◌else◌}
use Rattle.std.specs.Str.{str_eq_ignore_ascii_case, bytes_eq}
use Rattle.httparse.specs.Grammar.{ResponseHead, status_code}
use Rattle.http_wire.specs.declared.decimal.Decimal.{Decimal}
use Rattle.http_wire.specs.declared.decimal.Decimal.TheVariants.{Number, Past, Other}
use Rattle.http_wire.specs.declared.error.WireError.{WireError}
use Rattle.http_wire.specs.declared.error.WireError.TheVariants.{BadHead, Coding}
use Rattle.http_wire.specs.declared.head.Header.{Header}
use Rattle.http_wire.specs.Due.{number_said, as_length, length_said}
use Rattle.http_wire.specs.Fields.{values_of}
use Rattle.http_wire.specs.Head.{header_of}
use Rattle.proxy_wire.specs.declared.framing.Framing.{Framing}
use Rattle.proxy_wire.specs.declared.framing.Framing.TheVariants.{Length, Chunked, ToEnd}
use Rattle.proxy_wire.specs.declared.given.Given.{Given}
use Rattle.proxy_wire.specs.declared.given.Given.TheVariants.{Nothing, One, Several}

-- no value, one, or more
abbrev pub IsGiven : List (List ℕ) → Given → Type 0
IsGiven values Nothing = values ≡ []
IsGiven values (One v) = values ≡ v.now ∷ []
IsGiven values Several = (a : List ℕ) × (b : List ℕ) × (more : List (List ℕ)) × (values ≡ a ∷ b ∷ more)

-- `chunked`, without regard to ASCII case
abbrev pub is_chunked : List ℕ → Bool
is_chunked coding = str_eq_ignore_ascii_case coding (codes "chunked")

-- by a reply's length alone: a number, or none, where the body goes to the end
abbrev pub sized : Option Decimal → Option Framing
sized None = Some ToEnd
sized (Some (Number n)) = Some (Length n)
sized (Some Past) = None
sized (Some Other) = None

-- by a reply's coding alone
abbrev pub coded : List ℕ → Framing
coded coding = if is_chunked coding then Chunked else ToEnd

-- by the length and the codings that a reply's head says; none where it counts as no head
abbrev pub reply_framing : Option Decimal → List (List ℕ) → Option Framing
reply_framing length [] = sized length
reply_framing None (c ∷ []) = Some (coded c)
reply_framing None (c ∷ d ∷ more) = Some ToEnd
reply_framing (Some said) (c ∷ codings) = None

-- no body follows, whatever the head says
abbrev pub has_no_body : List ℕ → ℕ → Bool
has_no_body method status = bytes_eq method (codes "HEAD") || (status == 204 || status == 304)

-- the same, once that is looked at
abbrev pub without_body : Bool → Option Framing → Option Framing
without_body false found = found
without_body true None = None
without_body true (Some f) = Some (Length 0)

-- by the method of the request, the status and the headers of its reply
abbrev pub headers_framing : List ℕ → ℕ → List Header → Option Framing
headers_framing method status headers =
    without_body (has_no_body method status)
    (reply_framing (number_said (values_of (codes "content-length") headers)) (values_of (codes "transfer-encoding") headers))

-- the same of a head of the grammar
abbrev pub framing : List ℕ → ResponseHead → Option Framing
framing method r = headers_framing method (status_code r) (map header_of r.fields)

-- by a request's coding alone
abbrev pub coding_of : List ℕ → Result Framing WireError
coding_of coding = if is_chunked coding then Ok Chunked else Err Coding

-- by a request's length alone
abbrev pub length_of : Option ℕ → Framing
length_of None = Length 0
length_of (Some n) = Length n

-- by the length that a request's head says, or its refusal, and by the codings
abbrev pub framing_said : Result (Option ℕ) WireError → List (List ℕ) → Result Framing WireError
framing_said (Ok length) [] = Ok (length_of length)
framing_said (Err e) [] = Err e
framing_said (Ok None) (c ∷ []) = coding_of c
framing_said (Ok None) (c ∷ d ∷ more) = Err Coding
framing_said (Ok (Some n)) (c ∷ codings) = Err BadHead
framing_said (Err e) (c ∷ codings) = Err BadHead

-- how long the body behind a request's head is, or why it is refused
abbrev pub request_framing : List Header → Result Framing WireError
request_framing headers = framing_said (as_length (length_said headers)) (values_of (codes "transfer-encoding") headers)
