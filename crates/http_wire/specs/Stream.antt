-- What stands next on a whole stream, whatever is read of it at once: a head, an end, a part of a head, or one refusal.
use Rattle.std.specs.Prelude.{◌≡◌, ◌<◌, ◌≤◌, ℕ, List, [], ◌++◌, length, Result, Ok, Err}
use Rattle.httparse.specs.Grammar.{RequestHead, print_request}
use Rattle.http_wire.specs.declared.error.WireError.{WireError}
use Rattle.http_wire.specs.declared.error.WireError.TheVariants.{BadHead, TooLarge, Coding, Ended, Cut, ReadFault, Memory}
use Rattle.http_wire.specs.declared.head.Head.{Head}
use Rattle.http_wire.specs.Head.{head_of}
use Rattle.http_wire.specs.Wire.{IsOpen, IsServedHead, head_limit}
use Rattle.http_wire.specs.Next.{HeadRefused}

-- the first bytes of the stream, as many as a head may have at most, are refused
abbrev pub FrontRefused : List ℕ → WireError → Type 0
FrontRefused stream e =
    (front : List ℕ) × (more : List ℕ) × (stream ≡ front ++ more) × (length front ≤ head_limit) × HeadRefused front e

-- what stands next is this head, or this in a head's place
abbrev pub HeadNext : List ℕ → Result Head WireError → Type 0
HeadNext stream (Ok head) =
    (h : RequestHead) × (rest : List ℕ) × IsServedHead h × (head ≡ head_of h) × (stream ≡ print_request h ++ rest)
HeadNext stream (Err BadHead) = FrontRefused stream BadHead
HeadNext stream (Err (TooLarge n)) = FrontRefused stream (TooLarge n)
HeadNext stream (Err Coding) = ⊥
HeadNext stream (Err Ended) = stream ≡ []
HeadNext stream (Err Cut) = IsOpen stream × (0 < length stream) × (length stream < head_limit)
HeadNext stream (Err ReadFault) = ⊥
HeadNext stream (Err Memory) = ⊥
