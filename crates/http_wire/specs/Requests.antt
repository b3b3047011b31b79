-- What stands next on a stream of bytes: a request, the end, a part of a request, or one refusal.
use Rattle.std.specs.Prelude.{◌≡◌, ◌<◌, ◌⊎◌, ℕ, List, ◌++◌, length, Result, Ok, Err}
use Rattle.httparse.specs.Grammar.{RequestHead, print_request}
use Rattle.http_wire.specs.declared.error.WireError.{WireError}
use Rattle.http_wire.specs.declared.error.WireError.TheVariants.{BadHead, TooLarge, Coding, Ended, Cut, ReadFault, Memory}
use Rattle.http_wire.specs.declared.request.Request.{Request}
use Rattle.http_wire.specs.Wire.{IsServedHead}
use Rattle.http_wire.specs.Stream.{HeadNext}
use Rattle.http_wire.specs.Request.{IsRequestText, body_due_of}

-- the stream ends inside a body of n bytes
abbrev pub EndsInBody : ℕ → List ℕ → WireError → Type 0
EndsInBody n behind BadHead = ⊥
EndsInBody n behind (TooLarge m) = ⊥
EndsInBody n behind Coding = ⊥
EndsInBody n behind Ended = ⊥
EndsInBody n behind Cut = length behind < n
EndsInBody n behind ReadFault = ⊥
EndsInBody n behind Memory = ⊥

-- the head refuses its body, or the stream ends inside it
abbrev pub BodyRefused : Result ℕ WireError → List ℕ → WireError → Type 0
BodyRefused (Err refusal) behind e = e ≡ refusal
BodyRefused (Ok n) behind e = EndsInBody n behind e

-- what stands next is this request, or this in a request's place
abbrev pub RequestNext : List ℕ → Result Request WireError → Type 0
RequestNext stream (Ok request) = (text : List ℕ) × (rest : List ℕ) × IsRequestText request text × (stream ≡ text ++ rest)
RequestNext stream (Err e) =
    HeadNext stream (Err e)
    ⊎ ((h : RequestHead) × (behind : List ℕ) × IsServedHead h × (stream ≡ print_request h ++ behind) × BodyRefused (body_due_of h) behind e)
