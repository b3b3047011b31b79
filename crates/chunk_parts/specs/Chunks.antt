-- Chunked bodies, and what stands in their place.
use Rattle.std.specs.Prelude.{◌≡◌, ◌≤◌, ◌<◌, ◌⊎◌, ℕ, List, [], ◌∷◌, ◌++◌, length, All}
use Rattle.std.specs.List.{flat_map}
use Rattle.httparse.specs.Grammar.{ChunkLine, IsChunkLine, chunk_size, print_chunk_line, HasNoChunkLine, NeverHasChunkLine, Field, LineEnd}
use Rattle.httparse.specs.Grammar.{IsField, print_section, NeverHasSection, HasNoSection}

-- a size line within the limit
pub record IsSizeLine (line : ChunkLine) : Type 0 where
  pub valid : IsChunkLine line
  pub short : length (print_chunk_line line) ≤ 16384

-- a chunk: its line, its data and a line's end
pub record Chunk : Type 0 where
  pub line : ChunkLine
  pub bytes : List ℕ

abbrev pub print_chunk : Chunk → List ℕ
print_chunk c = print_chunk_line c.line ++ (c.bytes ++ 13 ∷ 10 ∷ [])

pub record IsChunk (c : Chunk) : Type 0 where
  pub line : IsSizeLine c.line
  pub size : chunk_size c.line ≡ length c.bytes
  pub some : 0 < length c.bytes

-- the last chunk's line and the trailer
pub record Trailer : Type 0 where
  pub line : ChunkLine
  pub fields : List Field
  pub last : LineEnd

abbrev pub print_trailer : Trailer → List ℕ
print_trailer t = print_chunk_line t.line ++ print_section t.fields t.last

pub record IsTrailer (t : Trailer) : Type 0 where
  pub line : IsSizeLine t.line
  pub zero : chunk_size t.line ≡ 0
  pub fields : All IsField t.fields
  pub size : length (print_section t.fields t.last) ≤ 16384

-- a whole chunked body
pub record Chunked : Type 0 where
  pub chunks : List Chunk
  pub trailer : Trailer

abbrev pub print_chunked : Chunked → List ℕ
print_chunked b = flat_map print_chunk b.chunks ++ print_trailer b.trailer

pub record IsChunked (b : Chunked) : Type 0 where
  pub chunks : All IsChunk b.chunks
  pub trailer : IsTrailer b.trailer

-- no line's end stands in front, nor can one come
abbrev pub NoLineEnd : List ℕ → Type 0
NoLineEnd [] = ⊥
NoLineEnd (a ∷ []) = ¬ (a ≡ 13)
NoLineEnd (a ∷ b ∷ rest) = ¬ ((a ≡ 13) × (b ≡ 10))

-- no size line stands in front, nor can one come within the limit
abbrev pub NoLine : List ℕ → Type 0
NoLine bytes = NeverHasChunkLine bytes ⊎ ((16384 ≤ length bytes) × HasNoChunkLine bytes)

-- no trailer stands in front, nor can one come within the limit
abbrev pub NoTrailer : List ℕ → Type 0
NoTrailer bytes = NeverHasSection bytes ⊎ ((16384 ≤ length bytes) × HasNoSection bytes)

-- behind a chunk's line: data without a line's end, or no trailer
abbrev pub BreaksAfter : ℕ → List ℕ → Type 0
BreaksAfter size behind =
    ((bytes after : List ℕ) × (0 < size) × (length bytes ≡ size) × (behind ≡ bytes ++ after) × NoLineEnd after)
    ⊎ ((size ≡ 0) × NoTrailer behind)

-- behind whole chunks stand bytes that can't go on as a chunk, whatever follows
abbrev pub BreaksChunks : List ℕ → Type 0
BreaksChunks bytes =
    (front : List Chunk) × (rest : List ℕ) × All IsChunk front × (bytes ≡ flat_map print_chunk front ++ rest)
    × (NoLine rest
    ⊎ ((line : ChunkLine) × (behind : List ℕ) × IsSizeLine line × (rest ≡ print_chunk_line line ++ behind)
    × BreaksAfter (chunk_size line) behind))

-- a front of a whole chunked body
abbrev pub BeginsChunked : List ℕ → Type 0
BeginsChunked bytes = (b : Chunked) × (more : List ℕ) × IsChunked b × (print_chunked b ≡ bytes ++ more)

-- no whole chunked body stands in front
abbrev pub HasNoChunked : List ℕ → Type 0
HasNoChunked bytes = (b : Chunked) (rest : List ℕ) → IsChunked b → ¬ (bytes ≡ print_chunked b ++ rest)
