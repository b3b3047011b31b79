-- Bodies of replies that are passed back: whole, or a part, and why no more.
use Rattle.std.specs.Prelude.{◌≡◌, ◌≤◌, ◌⊎◌, ◌+◌, ℕ, List, [], ◌++◌, length, min, Option}
use Rattle.hub_devices.specs.Faults.{Rises}
use Rattle.upstreams.specs.Upstream.{Told, IsSpent}
use Rattle.chunk_parts.specs.Chunks.{BreaksChunks, BeginsChunked}
use Rattle.chunk_parts.specs.declared.parts.At.{At}
use Rattle.chunk_parts.specs.Parts.{IsOpenPart, IsBadPart, Stands}
use Rattle.proxy_wire.specs.declared.framing.Framing.{Framing}
use Rattle.proxy_wire.specs.declared.framing.Framing.TheVariants.{Length, Chunked, ToEnd}
use Rattle.proxy_bodies.specs.declared.backs.Remainder.{Remainder}
use Rattle.proxy_bodies.specs.declared.backs.Remainder.TheVariants.{Bytes, Parts}
use Rattle.proxy_bodies.specs.declared.backs.BackEnd.{BackEnd}
use Rattle.proxy_bodies.specs.declared.backs.BackEnd.TheVariants.{Spent, ReceiveFault, WriteFault, Bad}
use Rattle.proxy_bodies.specs.Bodies.{most_passed, IsWholeBody}

-- the body was passed back: `tail` came and was not written. Bytes that are no chunk count as the upstream's early end
abbrev pub IsBackWhole : Framing → Option Told → List ℕ → List ℕ → Type 0
IsBackWhole (Length n) told body tail = length body ≡ n
IsBackWhole Chunked told body tail =
    IsWholeBody Chunked body ⊎ (BeginsChunked body × (BreaksChunks (body ++ tail) ⊎ (most_passed ≤ length body + length (body ++ tail))))
IsBackWhole ToEnd told body tail = (tail ≡ []) × IsSpent told

-- a front of such a body
abbrev pub IsBackPart : Framing → List ℕ → Type 0
IsBackPart (Length n) body = length body ≤ n
IsBackPart Chunked body = BeginsChunked body
IsBackPart ToEnd body = Unit {0}

-- all that came of the body was passed back, in chunks but for the beginning of a part; `tail` came and was not written
abbrev pub IsAllBack : Framing → List ℕ → List ℕ → Type 0
IsAllBack (Length n) body tail = tail ≡ []
IsAllBack Chunked body tail = (a : At) × Stands a body × IsOpenPart a tail
IsAllBack ToEnd body tail = tail ≡ []

-- how the passing back ends: `links` and `writes` are the counts of faults before, those with a prime after. Where the upstream ended early
-- or failed, all that came is passed back, in chunks but for the beginning of a part
abbrev pub IsBackEnd : Framing → Option Told → List ℕ → List ℕ → ℕ → ℕ → ℕ → ℕ → Type 0
IsBackEnd f told body tail links links' writes writes' =
    IsBackWhole f told body tail
    ⊎ (IsBackPart f body
    × ((IsAllBack f body tail × (IsSpent told ⊎ Rises links links')) ⊎ ((length body ≡ most_passed) ⊎ Rises writes writes')))

-- what is left of a body behind its first bytes; of one that is longer than is passed back, what of it is
abbrev pub IsBehind : Framing → List ℕ → Remainder → Type 0
IsBehind (Length n) front (Bytes m) = length front + m ≡ min n most_passed
IsBehind (Length n) front (Parts a) = ⊥
IsBehind Chunked front (Bytes m) = ⊥
IsBehind Chunked front (Parts a) = Stands a front
IsBehind ToEnd front (Bytes m) = length front + m ≡ most_passed
IsBehind ToEnd front (Parts a) = ⊥

-- whatever body this is left of, with `body` behind its first bytes its passing back ends so
abbrev pub EndsBehind : Remainder → Option Told → List ℕ → List ℕ → ℕ → ℕ → ℕ → ℕ → Type 0
EndsBehind left told body tail links links' writes writes' =
    (f : Framing) (front : List ℕ) → IsBehind f front left → IsBackEnd f told (front ++ body) tail links links' writes writes'

-- a body by its length stops: `tail` came and was not written
abbrev pub StopsSized : Option Told → List ℕ → BackEnd → Type 0
StopsSized told tail Spent = (tail ≡ []) × IsSpent told
StopsSized told tail ReceiveFault = tail ≡ []
StopsSized told tail WriteFault = Unit {0}
StopsSized told tail Bad = ⊥

-- bytes lead from one place in a chunked body to another, whatever came before them
abbrev pub Leads : At → List ℕ → At → Type 0
Leads a piece next = (given : List ℕ) → Stands a given → Stands next (given ++ piece)

-- a part of a chunked body stops: `piece` of what is held was written
abbrev pub StopsBack : At → Option Told → List ℕ → List ℕ → BackEnd → Type 0
StopsBack a told held piece Spent = (piece ≡ []) × IsSpent told × IsOpenPart a held
StopsBack a told held piece ReceiveFault = (piece ≡ []) × IsOpenPart a held
StopsBack a told held piece WriteFault = (rest more : List ℕ) × (next : At) × (held ≡ piece ++ more) × Leads a (piece ++ rest) next
StopsBack a told held piece Bad = (piece ≡ []) × IsBadPart a held
