-- What stands behind a head in place of its body.
use Rattle.std.specs.Prelude.{◌≡◌, ◌<◌, ◌≤◌, ◌⊎◌, ℕ, List, [], ◌++◌, length, Option, Result, Ok, Err}
use Rattle.httparse.specs.Grammar.{RequestHead, print_request}
use Rattle.hub_devices.specs.Streams.{IsEnd}
use Rattle.http_wire.specs.declared.error.WireError.{WireError}
use Rattle.http_wire.specs.declared.error.WireError.TheVariants.{BadHead, TooLarge, Coding, Ended, Cut, ReadFault, Memory}
use Rattle.http_wire.specs.Wire.{IsServedHead, head_limit}
use Rattle.http_wire.specs.Next.{RefusedAt}
use Rattle.http_wire.specs.Request.{body_due_of}

-- fewer than n bytes came for a body of n, and this is why
abbrev pub IsShort : ℕ → Option (List ℕ) → List ℕ → WireError → Type 0
IsShort n left bytes BadHead = ⊥
IsShort n left bytes (TooLarge m) = ⊥
IsShort n left bytes Coding = ⊥
IsShort n left bytes Ended = ⊥
IsShort n left bytes Cut = (length bytes < n) × IsEnd left
IsShort n left bytes ReadFault = length bytes < n
IsShort n left bytes Memory = Unit {0}

-- the head refuses its body, or less than the body came
abbrev pub NoBody : Result ℕ WireError → Option (List ℕ) → List ℕ → WireError → Type 0
NoBody (Err refusal) left bytes e = e ≡ refusal
NoBody (Ok n) left bytes e = IsShort n left bytes e

-- the bytes are all that came, and this is why there is no request
abbrev pub RequestRefusedAt : Option (List ℕ) → List ℕ → WireError → Type 0
RequestRefusedAt left bytes e =
    ((length bytes ≤ head_limit) × RefusedAt left bytes e)
    ⊎ ((h : RequestHead) × (behind : List ℕ) × IsServedHead h × (bytes ≡ print_request h ++ behind) × NoBody (body_due_of h) left behind e)

-- so many bytes of the body are taken at most
abbrev pub AtMostDue : Result ℕ WireError → ℕ → Type 0
AtMostDue (Err refusal) count = count ≡ 0
AtMostDue (Ok n) count = count ≤ n

-- the bytes are no more than one request, or the head of one that is refused
abbrev pub WithinRequest : List ℕ → Type 0
WithinRequest bytes =
    (bytes ≡ [])
    ⊎ ((h : RequestHead) × (part : List ℕ) × IsServedHead h × (bytes ≡ print_request h ++ part) × AtMostDue (body_due_of h) (length part))
