-- What stands next on a stream of bytes.
use Rattle.std.specs.Prelude.{◌≡◌, ◌<◌, ◌⊎◌, ℕ, List, [], length, Option}
use Rattle.httparse.specs.Grammar.{RequestHead, ReadsRequest}
use Rattle.hub_devices.specs.Streams.{IsEnd}
use Rattle.http_wire.specs.declared.error.WireError.{WireError}
use Rattle.http_wire.specs.declared.error.WireError.TheVariants.{BadHead, TooLarge, Coding, Ended, Cut, ReadFault, Memory}
use Rattle.http_wire.specs.Wire.{IsOpen, IsBad, HasPath, head_limit, header_limit}

-- the head is whole, and its target is no path
abbrev pub HasNoPath : List ℕ → Type 0
HasNoPath bytes = (h : RequestHead) × (rest : List ℕ) × ReadsRequest bytes h rest × ¬ (HasPath h.target)

-- the head is whole, and has n headers, too many
abbrev pub HasHeaders : List ℕ → ℕ → Type 0
HasHeaders bytes n =
    (h : RequestHead) × (rest : List ℕ) × ReadsRequest bytes h rest × HasPath h.target × (header_limit < length h.fields)
    × (n ≡ length h.fields)

-- no head ends within the limit
abbrev pub IsLong : List ℕ → Type 0
IsLong bytes = IsOpen bytes × (length bytes ≡ head_limit)

-- the refusal stands at the front of the bytes, whatever follows
abbrev pub HeadRefused : List ℕ → WireError → Type 0
HeadRefused bytes BadHead = IsBad bytes ⊎ HasNoPath bytes
HeadRefused bytes (TooLarge n) = (IsLong bytes × (n ≡ 16385)) ⊎ HasHeaders bytes n
HeadRefused bytes Coding = ⊥
HeadRefused bytes Ended = ⊥
HeadRefused bytes Cut = ⊥
HeadRefused bytes ReadFault = ⊥
HeadRefused bytes Memory = Unit {0}

-- the bytes are all that came, and this is why there is no request
abbrev pub RefusedAt : Option (List ℕ) → List ℕ → WireError → Type 0
RefusedAt left bytes BadHead = HeadRefused bytes BadHead
RefusedAt left bytes (TooLarge n) = HeadRefused bytes (TooLarge n)
RefusedAt left bytes Coding = ⊥
RefusedAt left bytes Ended = (bytes ≡ []) × IsEnd left
RefusedAt left bytes Cut = IsOpen bytes × (0 < length bytes) × (length bytes < head_limit) × IsEnd left
RefusedAt left bytes ReadFault = IsOpen bytes × (length bytes < head_limit)
RefusedAt left bytes Memory = Unit {0}
