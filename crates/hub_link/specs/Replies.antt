-- The bytes of one reply: a response head (RFC 9112) with one decimal Content-Length or none, and exactly as many bytes.
use Rattle.std.specs.Prelude.{◌≡◌, ◌≤◌, ℕ, List, [], ◌++◌, length, map, Option, Some, None}
use Rattle.httparse.specs.declared.spans.HeaderSpan.{HeaderSpan}
use Rattle.httparse.specs.Grammar.{ResponseHead, IsResponseHead, print_response, ReadsResponse, status_code}
use Rattle.httparse.specs.Spans.{IsResponseWithin, IsResponseOf}
use Rattle.http_wire.specs.declared.decimal.Decimal.{Decimal}
use Rattle.http_wire.specs.declared.decimal.Decimal.TheVariants.{Number, Past, Other}
use Rattle.http_wire.specs.Due.{length_said}
use Rattle.http_wire.specs.Head.{header_of}
use Rattle.http_wire.specs.Wire.{header_limit}
use Rattle.hub_link.specs.declared.replies.Front.{Front}
use Rattle.hub_link.specs.declared.replies.Front.TheVariants as front

-- the body is as long as is said; what is no number, or one past a `u64`, is no body's length
abbrev pub IsLength : Option Decimal → List ℕ → Type 0
IsLength None body = body ≡ []
IsLength (Some (Number n)) body = length body ≡ n
IsLength (Some Past) body = ⊥
IsLength (Some Other) body = ⊥

-- the bytes are one reply with this status and body
pub record IsReply (bytes : List ℕ) (status : ℕ) (body : List ℕ) : Type 0 where
  pub head : ResponseHead
  pub valid : IsResponseHead head
  pub headers : length head.fields ≤ header_limit
  pub whole : bytes ≡ print_response head ++ body
  pub code : status ≡ status_code head
  pub fits : IsLength (length_said (map header_of head.fields)) body

abbrev pub IsNoReply : List ℕ → Type 0
IsNoReply bytes = (status : ℕ) (body : List ℕ) → ¬ (IsReply bytes status body)

-- the bytes are one reply by the length that it says, so that none of it is still to come
pub record HasCome (bytes : List ℕ) : Type 0 where
  pub status : ℕ
  pub body : List ℕ
  pub reply : IsReply bytes status body
  pub said : length_said (map header_of (IsReply.head reply).fields) ≡ Some (Number (length body))

-- what bytes say as a reply: its status and its body, if they are one
abbrev pub Says : List ℕ → Option (ℕ × List ℕ) → Type 0
Says bytes (Some (status, body)) = IsReply bytes status body
Says bytes None = IsNoReply bytes

-- what the parser found at the front, with room for 64 headers
abbrev pub IsFront : List ℕ → List HeaderSpan → Front → Type 0
IsFront bytes spans (front.Whole r) = IsResponseWithin bytes spans r × IsResponseOf bytes spans r
IsFront bytes spans front.Other =
    (h : ResponseHead) (rest : List ℕ) → ReadsResponse bytes h rest → ¬ (length h.fields ≤ header_limit)
