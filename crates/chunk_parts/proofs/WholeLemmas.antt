-- What stands in front of a chunked body's bytes.
use Rattle.std.proofs.Common.{◌≡◌, ◌<◌, ◌≤◌, ◌⊎◌, ◌+◌, ℕ, true, false, List, [], ◌∷◌, ◌++◌, length, take, drop, refl, sym, ap, ◌∙◌, inl, inr, append_assoc, length-append, arith, All}
use Rattle.std.specs.List.{flat_map}
use Rattle.std.proofs.lemmas.List.{append-nil, take_at, drop_at}
use Rattle.std.proofs.lemmas.List.Elements.{All-head, All-tail}
use Rattle.httparse.specs.Grammar.{ChunkLine, chunk_size, print_chunk_line, HasNoChunkLine, print_section, HasNoSection}
use Rattle.httparse.proofs.ChunkLemmas.{chunk_line_unique}
use Rattle.chunk_parts.specs.declared.parts.At.{At}
use Rattle.chunk_parts.specs.declared.parts.At.TheVariants as at
use Rattle.chunk_parts.specs.Chunks.{IsSizeLine, Chunk, print_chunk, IsChunk, Trailer, IsTrailer, print_trailer, Chunked, print_chunked, IsChunked, HasNoChunked}
use Rattle.chunk_parts.specs.Parts.{IsAt, IsOpenPart, Stands, is_done}

pub same_front : (a b x y : List ℕ) → length a ≡ length b → a ++ x ≡ b ++ y → (a ≡ b) × (x ≡ y)
same_front a b x y long is = (
  sym (take_at a x (length a) refl) ∙ (ap (take (length a)) is ∙ take_at b y (length a) (sym long)),
  sym (drop_at a x (length a) refl) ∙ (ap (drop (length a)) is ∙ drop_at b y (length a) (sym long)),
)

-- two lines in front of the same bytes
pub same_line : (a b : ChunkLine) (x y : List ℕ) → IsSizeLine a → IsSizeLine b → print_chunk_line a ++ x ≡ print_chunk_line b ++ y → (a ≡ b) × (x ≡ y)
same_line a b x y isa isb is = chunk_line_unique (print_chunk_line a ++ x) a b x y (isa.valid, refl) (isb.valid, is)

-- a chunk is no last line
pub not_last : (a b : ChunkLine) (x y : List ℕ) → IsSizeLine a → IsSizeLine b → print_chunk_line a ++ x ≡ print_chunk_line b ++ y → 0 < chunk_size a → chunk_size b ≡ 0 → ⊥
not_last a b x y isa isb is some zero = omega (arith, some, zero, ap chunk_size (same_line a b x y isa isb is).0)

sized : (c : Chunk) → IsChunk c → 0 < chunk_size c.line
sized c is = omega (arith, is.size, is.some)

-- what is left of a chunked body behind whole chunks
pub record Left (t : Trailer) (rest more : List ℕ) : Type 0 where
  pub chunks : List Chunk
  pub each : All IsChunk chunks
  pub whole : rest ≡ flat_map print_chunk chunks ++ (print_trailer t ++ more)

chunk_front : (c : Chunk) (x : List ℕ) → print_chunk c ++ x ≡ print_chunk_line c.line ++ (c.bytes ++ (13 ∷ 10 ∷ [] ++ x))
chunk_front c x = append_assoc (print_chunk_line c.line) (c.bytes ++ 13 ∷ 10 ∷ []) x ∙ ap (λ (r : List ℕ). print_chunk_line c.line ++ r) (append_assoc c.bytes (13 ∷ 10 ∷ []) x)

-- two chunks in front of the same bytes
same_chunk : (c d : Chunk) (x y : List ℕ) → IsChunk c → IsChunk d → print_chunk c ++ x ≡ print_chunk d ++ y → x ≡ y
same_chunk c d x y isc isd is =
    let lines = same_line c.line d.line (c.bytes ++ (13 ∷ 10 ∷ [] ++ x)) (d.bytes ++ (13 ∷ 10 ∷ [] ++ y)) isc.line isd.line (sym (chunk_front c x) ∙ (is ∙ chunk_front d y)) in
    let bytes = same_front c.bytes d.bytes (13 ∷ 10 ∷ [] ++ x) (13 ∷ 10 ∷ [] ++ y) (omega (arith, isc.size, isd.size, ap chunk_size lines.0)) lines.1 in
    (same_front (13 ∷ 10 ∷ []) (13 ∷ 10 ∷ []) x y refl bytes.1).1

pub behind_chunks : (front chunks : List Chunk) (t : Trailer) (rest more : List ℕ) → All IsChunk front → All IsChunk chunks → IsTrailer t
    → flat_map print_chunk front ++ rest ≡ flat_map print_chunk chunks ++ (print_trailer t ++ more) → Left t rest more
behind_chunks [] chunks t rest more fs cs is whole = record { chunks = chunks; each = cs; whole = whole }
behind_chunks (c ∷ front) [] t rest more fs cs is whole =
    let one = All-head IsChunk c front fs in
    absurd (not_last c.line t.line (c.bytes ++ (13 ∷ 10 ∷ [] ++ (flat_map print_chunk front ++ rest))) (print_section t.fields t.last ++ more) one.line is.line
    (sym (chunk_front c (flat_map print_chunk front ++ rest)) ∙ (sym (append_assoc (print_chunk c) (flat_map print_chunk front) rest) ∙ (whole ∙ append_assoc (print_chunk_line t.line) (print_section t.fields t.last) more)))
    (sized c one) is.zero)
behind_chunks (c ∷ front) (d ∷ chunks) t rest more fs cs is whole =
    behind_chunks front chunks t rest more (All-tail IsChunk c front fs) (All-tail IsChunk d chunks cs) is
    (same_chunk c d (flat_map print_chunk front ++ rest) (flat_map print_chunk chunks ++ (print_trailer t ++ more)) (All-head IsChunk c front fs) (All-head IsChunk d chunks cs)
    (sym (append_assoc (print_chunk c) (flat_map print_chunk front) rest) ∙ (whole ∙ append_assoc (print_chunk d) (flat_map print_chunk chunks) (print_trailer t ++ more))))

-- the first line of what is left, and what stands behind it
pub data Leads (t : Trailer) (rest more : List ℕ) : Type 0 where
  chunk : (d : Chunk) (x : List ℕ) → IsChunk d → rest ≡ print_chunk_line d.line ++ (d.bytes ++ (13 ∷ 10 ∷ [] ++ x)) → Leads t rest more
  last : rest ≡ print_chunk_line t.line ++ (print_section t.fields t.last ++ more) → Leads t rest more

leads_of : (chunks : List Chunk) (t : Trailer) (rest more : List ℕ) → All IsChunk chunks → rest ≡ flat_map print_chunk chunks ++ (print_trailer t ++ more) → Leads t rest more
leads_of [] t rest more cs whole = last (whole ∙ append_assoc (print_chunk_line t.line) (print_section t.fields t.last) more)
leads_of (d ∷ chunks) t rest more cs whole =
    chunk d (flat_map print_chunk chunks ++ (print_trailer t ++ more)) (All-head IsChunk d chunks cs)
    (whole ∙ (append_assoc (print_chunk d) (flat_map print_chunk chunks) (print_trailer t ++ more) ∙ chunk_front d (flat_map print_chunk chunks ++ (print_trailer t ++ more))))

pub leads : (front : List Chunk) (given rest : List ℕ) (b : Chunked) (more : List ℕ) → All IsChunk front → IsChunked b → given ≡ flat_map print_chunk front
    → given ++ rest ≡ print_chunked b ++ more → Leads b.trailer rest more
leads front given rest b more fs is g whole =
    let left = behind_chunks front b.chunks b.trailer rest more fs is.chunks is.trailer
    (ap (λ (x : List ℕ). x ++ rest) (sym g) ∙ (whole ∙ append_assoc (flat_map print_chunk b.chunks) (print_trailer b.trailer) more)) in
    leads_of left.chunks b.trailer rest more left.each left.whole

pub line_none : (t : Trailer) (rest more : List ℕ) → IsTrailer t → Leads t rest more → HasNoChunkLine rest → ⊥
line_none t rest more is (chunk d x isd whole) none = none d.line (d.bytes ++ (13 ∷ 10 ∷ [] ++ x)) (isd.line.valid, whole)
line_none t rest more is (last whole) none = none t.line (print_section t.fields t.last ++ more) (is.line.valid, whole)

-- behind a chunk's line the data and its end have so many bytes
data_more : (t : Trailer) (line : ChunkLine) (behind more : List ℕ) → IsTrailer t → IsSizeLine line → Leads t (print_chunk_line line ++ behind) more → 0 < chunk_size line → chunk_size line + 2 ≤ length behind
data_more t line behind more is isl (chunk d x isd whole) some =
    let same = same_line line d.line behind (d.bytes ++ (13 ∷ 10 ∷ [] ++ x)) isl isd.line whole in
    omega (arith, isd.size, ap chunk_size same.0, ap length same.1, length-append d.bytes (13 ∷ 10 ∷ [] ++ x), length-append (13 ∷ 10 ∷ []) x)
data_more t line behind more is isl (last whole) some = absurd (not_last line t.line behind (print_section t.fields t.last ++ more) isl is.line whole some is.zero)

pub trailer_none : (t : Trailer) (line : ChunkLine) (behind more : List ℕ) → IsTrailer t → IsSizeLine line → Leads t (print_chunk_line line ++ behind) more → chunk_size line ≡ 0 → HasNoSection behind → ⊥
trailer_none t line behind more is isl (chunk d x isd whole) zero none =
    not_last d.line line (d.bytes ++ (13 ∷ 10 ∷ [] ++ x)) behind isd.line isl (sym whole) (sized d isd) zero
trailer_none t line behind more is isl (last whole) zero none =
    none t.fields t.last more (is.fields, (same_line line t.line behind (print_section t.fields t.last ++ more) isl is.line whole).1)

-- what is open behind whole chunks
open_line : (front : List Chunk) (line : ChunkLine) (bytes given rest : List ℕ) (b : Chunked) (more : List ℕ) → All IsChunk front → IsChunked b → given ≡ flat_map print_chunk front ++ (print_chunk_line line ++ bytes)
    → given ++ rest ≡ print_chunked b ++ more → Leads b.trailer (print_chunk_line line ++ (bytes ++ rest)) more
open_line front line bytes given rest b more fs is g whole =
    leads front (flat_map print_chunk front) (print_chunk_line line ++ (bytes ++ rest)) b more fs is refl
    (sym (ap (λ (x : List ℕ). x ++ rest) g ∙ (append_assoc (flat_map print_chunk front) (print_chunk_line line ++ bytes) rest
    ∙ ap (λ (x : List ℕ). flat_map print_chunk front ++ x) (append_assoc (print_chunk_line line) bytes rest))) ∙ whole)

-- a part that is open leaves the body open
pub open_none : (a : At) (given rest : List ℕ) → Stands a given → IsOpenPart a rest → HasNoChunked (given ++ rest)
open_none at.Line given rest (front, each, g) open_ b more is whole = line_none b.trailer rest more is.trailer (leads front given rest b more each is g whole) open_
open_none (at.Data m) given rest (front, line, bytes, each, isl, size, pos, g) open_ b more is whole =
    let long = data_more b.trailer line (bytes ++ rest) more is.trailer isl (open_line front line bytes given rest b more each is g whole) (omega (arith, size, pos)) in
    omega (arith, long, length-append bytes rest, ap length open_, size, pos)
open_none at.LineEnd given rest (front, line, bytes, each, isl, size, pos, g) open_ b more is whole =
    let long = data_more b.trailer line (bytes ++ rest) more is.trailer isl (open_line front line bytes given rest b more each is g whole) (omega (arith, size, pos)) in
    omega (arith, long, length-append bytes rest, short open_, size, pos)
  where
    short : {r : List ℕ} → (r ≡ []) ⊎ (r ≡ 13 ∷ []) → length r ≤ 1
    short (inl is) = omega (arith, ap length is)
    short (inr is) = omega (arith, ap length is)
open_none at.Trailer given rest (front, line, each, isl, zero, g) open_ b more is whole =
    trailer_none b.trailer line rest more is.trailer isl
    (open_line front line [] given rest b more each is (g ∙ ap (λ (x : List ℕ). flat_map print_chunk front ++ x) (sym (append-nil (print_chunk_line line)))) whole) zero open_
open_none at.Done given rest stands open_ b more is whole = absurd open_

pub is_at : (a : At) (given : List ℕ) → Stands a given → is_done a ≡ false → IsAt a
is_at at.Line given stands not = tt
is_at (at.Data n) given (front, line, bytes, each, is, size, pos, g) not = pos
is_at at.LineEnd given stands not = tt
is_at at.Trailer given stands not = tt
is_at at.Done given stands not = cc

pub done_whole : (a : At) (given : List ℕ) → Stands a given → is_done a ≡ true → (b : Chunked) × IsChunked b × (given ≡ print_chunked b)
done_whole at.Line given stands is = absurd (false_true is)
  where
    false_true : false ≡ true → ⊥
    false_true e = cc
done_whole (at.Data n) given stands is = absurd (false_true is)
  where
    false_true : false ≡ true → ⊥
    false_true e = cc
done_whole at.LineEnd given stands is = absurd (false_true is)
  where
    false_true : false ≡ true → ⊥
    false_true e = cc
done_whole at.Trailer given stands is = absurd (false_true is)
  where
    false_true : false ≡ true → ⊥
    false_true e = cc
done_whole at.Done given stands is = stands
