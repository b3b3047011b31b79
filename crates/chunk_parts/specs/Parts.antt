-- Where a chunked body stands, and the parts that lead on.
use Rattle.std.specs.Prelude.{Bool, true, false, ◌≡◌, ◌≤◌, ◌<◌, ◌⊎◌, ◌+◌, ◌-◌, ◌==◌, if◌then◌else◌, ℕ, List, [], ◌∷◌, ◌++◌, length, take}
use Rattle.std.specs.Prelude.{All}
use Rattle.std.specs.List.{flat_map}
use Rattle.httparse.specs.Grammar.{ChunkLine, chunk_size, print_chunk_line, HasNoChunkLine, Field, LineEnd, IsField, print_section}
use Rattle.httparse.specs.Grammar.{HasNoSection}
use Rattle.chunk_parts.specs.declared.parts.At.{At}
use Rattle.chunk_parts.specs.declared.parts.At.TheVariants as at
use Rattle.chunk_parts.specs.declared.parts.Part.{Part}
use Rattle.chunk_parts.specs.declared.parts.Part.TheVariants.{Whole, Open, Bad}
use Rattle.chunk_parts.specs.Chunks.{IsSizeLine, Chunk, print_chunk, IsChunk, Chunked, print_chunked, IsChunked, NoLineEnd, NoLine}
use Rattle.chunk_parts.specs.Chunks.{NoTrailer}

-- something comes, and of data at least a byte
abbrev pub IsAt : At → Type 0
IsAt at.Line = Unit {0}
IsAt (at.Data n) = 0 < n
IsAt at.LineEnd = Unit {0}
IsAt at.Trailer = Unit {0}
IsAt at.Done = ⊥

abbrev pub is_done : At → Bool
is_done at.Line = false
is_done (at.Data n) = false
is_done at.LineEnd = false
is_done at.Trailer = false
is_done at.Done = true

abbrev pub after_line : ℕ → At
after_line size = if size == 0 then at.Trailer else at.Data size

abbrev pub after_data : ℕ → At
after_data rest = if rest == 0 then at.LineEnd else at.Data rest

-- bytes that have no end: how many they are
abbrev pub IsNoLine : ℕ → Part → Type 0
IsNoLine count (Whole n next) = ⊥
IsNoLine count Open = count < 16384
IsNoLine count Bad = 16384 ≤ count

-- the piece is a part, and leads there
abbrev pub IsNext : At → List ℕ → At → Type 0
IsNext at.Line piece next = (line : ChunkLine) × IsSizeLine line × (piece ≡ print_chunk_line line) × (next ≡ after_line (chunk_size line))
IsNext (at.Data m) piece next = (0 < length piece) × (length piece ≤ m) × (next ≡ after_data (m - length piece))
IsNext at.LineEnd piece next = (piece ≡ 13 ∷ 10 ∷ []) × (next ≡ at.Line)
IsNext at.Trailer piece next =
    (fields : List Field) × (last : LineEnd) × All IsField fields × (piece ≡ print_section fields last) × (length piece ≤ 16384)
    × (next ≡ at.Done)
IsNext at.Done piece next = ⊥

-- the beginning of a part
abbrev pub IsOpenPart : At → List ℕ → Type 0
IsOpenPart at.Line bytes = HasNoChunkLine bytes
IsOpenPart (at.Data m) bytes = bytes ≡ []
IsOpenPart at.LineEnd bytes = (bytes ≡ []) ⊎ (bytes ≡ 13 ∷ [])
IsOpenPart at.Trailer bytes = HasNoSection bytes
IsOpenPart at.Done bytes = ⊥

-- neither a part nor the beginning of one
abbrev pub IsBadPart : At → List ℕ → Type 0
IsBadPart at.Line bytes = NoLine bytes
IsBadPart (at.Data m) bytes = ⊥
IsBadPart at.LineEnd bytes = NoLineEnd bytes
IsBadPart at.Trailer bytes = NoTrailer bytes
IsBadPart at.Done bytes = ⊥

abbrev pub IsPart : At → List ℕ → Part → Type 0
IsPart a bytes (Whole n next) = (n ≤ length bytes) × (0 < n) × IsNext a (take n bytes) next
IsPart a bytes Open = (length bytes < 16384) × IsOpenPart a bytes
IsPart a bytes Bad = IsBadPart a bytes

-- the bytes are a front of a chunked body, and this comes next
abbrev pub Stands : At → List ℕ → Type 0
Stands at.Line given = (front : List Chunk) × All IsChunk front × (given ≡ flat_map print_chunk front)
Stands (at.Data n) given =
    (front : List Chunk) × (line : ChunkLine) × (bytes : List ℕ) × All IsChunk front × IsSizeLine line
    × (chunk_size line ≡ length bytes + n) × (0 < n) × (given ≡ flat_map print_chunk front ++ (print_chunk_line line ++ bytes))
Stands at.LineEnd given =
    (front : List Chunk) × (line : ChunkLine) × (bytes : List ℕ) × All IsChunk front × IsSizeLine line × (chunk_size line ≡ length bytes)
    × (0 < length bytes) × (given ≡ flat_map print_chunk front ++ (print_chunk_line line ++ bytes))
Stands at.Trailer given =
    (front : List Chunk) × (line : ChunkLine) × All IsChunk front × IsSizeLine line × (chunk_size line ≡ 0)
    × (given ≡ flat_map print_chunk front ++ print_chunk_line line)
Stands at.Done given = (b : Chunked) × IsChunked b × (given ≡ print_chunked b)
