-- The heads that are sent on and passed back.
use Rattle.std.specs.Prelude.{ℕ, ◌+◌, ◌/◌, ◌%◌, ◌==◌, Bool, ◌||◌, ◌&&◌, not, List, [], ◌∷◌, ◌++◌, map, codes, if◌then◌else◌}
use Rattle.std.specs.List.{filter, flat_map}
use Rattle.std.specs.Str.{str_eq_ignore_ascii_case}
use Rattle.httparse.specs.Grammar.{RequestHead, ResponseHead, reason_phrase, status_code}
use Rattle.http_wire.specs.declared.head.Header.{Header}
use Rattle.http_wire.specs.declared.head.Head.{Head}
use Rattle.http_wire.specs.Head.{header_of, head_of}

-- a header that speaks to the next hop alone, which isn't passed on, but for `Upgrade` where an upgrade is
abbrev pub is_hop : Bool → List ℕ → Bool
is_hop upgrade name =
    str_eq_ignore_ascii_case name (codes "connection")
    || (str_eq_ignore_ascii_case name (codes "keep-alive")
    || (str_eq_ignore_ascii_case name (codes "proxy-connection") || not upgrade && str_eq_ignore_ascii_case name (codes "upgrade")))

-- name, colon, space, value and a line's end
abbrev pub header_line : Header → List ℕ
header_line h = h.name ++ 58 ∷ 32 ∷ h.value ++ 13 ∷ 10 ∷ []

-- the lines of the headers that are passed on, in their order
abbrev pub header_lines : Bool → List Header → List ℕ
header_lines upgrade headers = flat_map header_line (filter (λ h. not (is_hop upgrade h.name)) headers)

-- a line's end, and the empty line behind it
abbrev pub head_end : List ℕ
head_end = 13 ∷ 10 ∷ 13 ∷ 10 ∷ []

-- the last line, and the empty line behind it
abbrev pub last_line : Bool → List ℕ
last_line upgrade = if upgrade then codes "Connection: Upgrade" ++ head_end else codes "Connection: close" ++ head_end

-- method, target and version with one space between, and a line's end
abbrev pub request_line : List ℕ → List ℕ → ℕ → List ℕ
request_line method target minor = method ++ 32 ∷ target ++ 32 ∷ codes "HTTP/1." ++ (48 + minor) ∷ 13 ∷ 10 ∷ []

-- the head of a request as it is sent on, as an upgrade or not
abbrev pub request_text : Bool → Head → List ℕ
request_text upgrade head =
    request_line head.method head.target head.minor ++ header_lines upgrade head.headers ++ last_line upgrade

-- the same of a head of the grammar
abbrev pub request_passed : Bool → RequestHead → List ℕ
request_passed upgrade h = request_text upgrade (head_of h)

-- a status as three digits
abbrev pub three_digits : ℕ → List ℕ
three_digits n = (48 + n / 100 % 10) ∷ (48 + n / 10 % 10) ∷ (48 + n % 10) ∷ []

-- version, status and reason with one space between, and a line's end
abbrev pub status_line : ℕ → ℕ → List ℕ → List ℕ
status_line minor status reason = codes "HTTP/1." ++ (48 + minor) ∷ 32 ∷ three_digits status ++ 32 ∷ reason ++ 13 ∷ 10 ∷ []

-- the connection is switched over to another protocol
abbrev pub is_switched : ℕ → Bool
is_switched status = status == 101

-- the head of a reply as it is passed back
abbrev pub reply_text : ℕ → ℕ → List ℕ → List Header → List ℕ
reply_text minor status reason headers =
    status_line minor status reason ++ header_lines (is_switched status) headers ++ last_line (is_switched status)

-- the same of a head of the grammar
abbrev pub reply_passed : ResponseHead → List ℕ
reply_passed h = reply_text h.minor (status_code h) (reason_phrase h.reason) (map header_of h.fields)
