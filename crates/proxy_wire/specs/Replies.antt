-- The head of a reply in the bytes that come from an upstream.
use Rattle.std.specs.Prelude.{◌≡◌, ◌<◌, ◌≤◌, ◌⊎◌, ◌+◌, ℕ, Bool, true, false, List, [], ◌++◌, length, take, All, Option, Some, None}
use Rattle.std.specs.List.{flat_map}
use Rattle.httparse.specs.declared.spans.HeaderSpan.{HeaderSpan}
use Rattle.httparse.specs.Grammar.{ResponseHead, IsResponseHead, print_response, ReadsResponse, HasNoResponse, status_code}
use Rattle.httparse.specs.Spans.{IsResponseWithin, IsResponseOf, ResponseOverflows}
use Rattle.http_wire.specs.Wire.{head_limit, header_limit}
use Rattle.upstreams.specs.Upstream.{Told, IsSpent}
use Rattle.proxy_wire.specs.declared.framing.Framing.{Framing}
use Rattle.proxy_wire.specs.declared.replies.Front.{Front}
use Rattle.proxy_wire.specs.declared.replies.Front.TheVariants.{Whole, Open, Bad}
use Rattle.proxy_wire.specs.declared.replies.Kind.{Kind}
use Rattle.proxy_wire.specs.declared.replies.Kind.TheVariants as kind
use Rattle.proxy_wire.specs.declared.replies.Step.{Step}
use Rattle.proxy_wire.specs.declared.replies.Step.TheVariants as step
use Rattle.proxy_wire.specs.declared.replies.ReplyError.{ReplyError}
use Rattle.proxy_wire.specs.declared.replies.ReplyError.TheVariants as error
use Rattle.proxy_wire.specs.Framing.{framing}
use Rattle.proxy_wire.specs.Heads.{reply_passed, is_switched}

-- a status whose head is skipped
abbrev pub IsSkipped : ℕ → Type 0
IsSkipped status = (status ≡ 100) ⊎ ((102 ≤ status) × (status < 200))

-- a status whose head is the reply's; 101 is that of an upgrade alone
abbrev pub IsFinal : Bool → ℕ → Type 0
IsFinal upgrade status = (status < 100) ⊎ ((200 ≤ status) ⊎ ((status ≡ 101) × (upgrade ≡ true)))

abbrev pub IsKind : Bool → ℕ → Kind → Type 0
IsKind upgrade status kind.Skipped = IsSkipped status
IsKind upgrade status kind.Final = IsFinal upgrade status
IsKind upgrade status kind.Neither = (status ≡ 101) × (upgrade ≡ false)

-- a head that is skipped
pub record IsInterim (r : ResponseHead) : Type 0 where
  pub head : IsResponseHead r
  pub status : IsSkipped (status_code r)
  pub headers : length r.fields ≤ header_limit

-- the bytes begin with skipped heads and the reply's head, within the limits; to an upgrade or not
pub record BeginsReply (upgrade : Bool) (method bytes : List ℕ) (r : ResponseHead) (f : Framing) (rest : List ℕ) : Type 0 where
  pub interim : List ResponseHead
  pub each : All IsInterim interim
  pub head : IsResponseHead r
  pub final : IsFinal upgrade (status_code r)
  pub headers : length r.fields ≤ header_limit
  pub size : length (flat_map print_response interim) + length (print_response r) ≤ head_limit
  pub whole : bytes ≡ flat_map print_response interim ++ (print_response r ++ rest)
  pub framed : framing method r ≡ Some f

-- the bytes that came begin with no reply, whatever follows; where the upstream is spent, nothing does
abbrev pub NoReply : Bool → List ℕ → Option Told → List ℕ → Type 0
NoReply upgrade method told got =
    (r : ResponseHead) (f : Framing) (rest more : List ℕ) → (IsSpent told → more ≡ [])
    → ¬ (BeginsReply upgrade method (got ++ more) r f rest)

-- why there is no reply
abbrev pub IsNoReply : Bool → List ℕ → Option Told → List ℕ → ReplyError → Type 0
IsNoReply upgrade method told got error.Bad = NoReply upgrade method told got
IsNoReply upgrade method told got error.Fault = Unit {0}
IsNoReply upgrade method told got error.Memory = Unit {0}

-- what the parser found at the front, with room for 64 headers
abbrev pub IsReplyFront : List ℕ → List HeaderSpan → Front → Type 0
IsReplyFront bytes spans (Whole r) = IsResponseWithin bytes spans r × IsResponseOf bytes spans r
IsReplyFront bytes spans Open = HasNoResponse bytes
IsReplyFront bytes spans Bad = ResponseOverflows 64 bytes

-- the head stands at the front, and n is its length
pub record IsHeadOf (bytes : List ℕ) (h : ResponseHead) (n : ℕ) : Type 0 where
  pub head : IsResponseHead h
  pub headers : length h.fields ≤ header_limit
  pub front : take n bytes ≡ print_response h
  pub size : n ≡ length (print_response h)
  pub fits : n ≤ length bytes
  pub some : 0 < n

-- whatever follows, no head comes that is skipped or a reply's
abbrev pub NoHead : Bool → List ℕ → Type 0
NoHead upgrade bytes =
    (more : List ℕ) (h : ResponseHead) (rest : List ℕ) → ReadsResponse (bytes ++ more) h rest → length h.fields ≤ header_limit
    → (status_code h ≡ 101) × (upgrade ≡ false)

-- what stands behind the heads that were skipped
abbrev pub IsStep : Bool → List ℕ → List ℕ → Step → Type 0
IsStep upgrade method bytes (step.Interim n) = (h : ResponseHead) × IsHeadOf bytes h n × IsSkipped (status_code h)
IsStep upgrade method bytes (step.Final reply n) =
    (h : ResponseHead) × IsHeadOf bytes h n × IsFinal upgrade (status_code h) × (framing method h ≡ Some reply.framing)
    × (reply.text ≡ reply_passed h) × (reply.switched ≡ is_switched (status_code h))
IsStep upgrade method bytes step.Open = HasNoResponse bytes
IsStep upgrade method bytes step.Bad = NoHead upgrade bytes
IsStep upgrade method bytes step.Unframed = (h : ResponseHead) × (n : ℕ) × IsHeadOf bytes h n × IsFinal upgrade (status_code h)
    × (framing method h ≡ None)
