-- From the parts of a chunked body to its data.
use Rattle.std.proofs.Common.{None, Some, ◌≡◌, ◌==◌, ◌<◌, ◌≤◌, ◌+◌, ◌-◌, ℕ, Bool, true, false, if◌then◌else◌, List, [], ◌∷◌, ◌++◌, length, take, drop, refl, sym, ap, ◌∙◌, subst, append_assoc, length-append, arith, All}
use Rattle.std.specs.List.{flat_map}
use Rattle.std.proofs.lemmas.List.{append-nil, take-append-drop, take-take, take_all, drop-take, length-take, length-drop}
use Rattle.std.proofs.lemmas.Bool.{eqb-true, eqb-false}
use Rattle.std.proofs.lemmas.Grind.{flat_map-append}
use Rattle.std.proofs.lemmas.List.Elements.{All-head, All-tail, All-nil, All-cons, All-append}
use Rattle.httparse.specs.Grammar.{ChunkLine, chunk_size, print_chunk_line, print_section}
use Rattle.httparse.proofs.GrammarLemmas.{section_unique}
use Rattle.chunk_parts.specs.declared.parts.At.{At}
use Rattle.chunk_parts.specs.declared.parts.At.TheVariants as at
use Rattle.chunk_parts.specs.declared.parts.Part.TheVariants.{Whole, Open, Bad}
use Rattle.chunk_parts.specs.Chunks.{IsSizeLine, Chunk, print_chunk, IsChunk, Trailer, IsTrailer, print_trailer, Chunked, print_chunked, IsChunked, HasNoChunked}
use Rattle.chunk_parts.specs.Parts.{IsAt, IsNext, IsPart, IsOpenPart, Stands, is_done}
use Rattle.chunk_parts.proofs.BreakLemmas.{breaks_none}
use Rattle.chunk_parts.proofs.OnLemmas.{breaks}
use Rattle.chunk_parts.proofs.WholeLemmas.{Leads, chunk, last, leads, same_front, same_line, not_last, open_none, is_at}
use Rattle.hub_link.specs.Chunked.{data_of, data_part, IsStep, IsDataOf}

-- the bytes are a front of a chunked body with this data, and this comes next
abbrev pub Gathers : At → List ℕ → List ℕ → Type 0
Gathers at.Line given content = (front : List Chunk) × All IsChunk front × (given ≡ flat_map print_chunk front) × (content ≡ data_of front)
Gathers (at.Data n) given content =
    (front : List Chunk) × (line : ChunkLine) × (bytes : List ℕ) × All IsChunk front × IsSizeLine line
    × (chunk_size line ≡ length bytes + n) × (0 < n) × (given ≡ flat_map print_chunk front ++ (print_chunk_line line ++ bytes))
    × (content ≡ data_of front ++ bytes)
Gathers at.LineEnd given content =
    (front : List Chunk) × (line : ChunkLine) × (bytes : List ℕ) × All IsChunk front × IsSizeLine line × (chunk_size line ≡ length bytes)
    × (0 < length bytes) × (given ≡ flat_map print_chunk front ++ (print_chunk_line line ++ bytes)) × (content ≡ data_of front ++ bytes)
Gathers at.Trailer given content =
    (front : List Chunk) × (line : ChunkLine) × All IsChunk front × IsSizeLine line × (chunk_size line ≡ 0)
    × (given ≡ flat_map print_chunk front ++ print_chunk_line line) × (content ≡ data_of front)
Gathers at.Done given content = (b : Chunked) × IsChunked b × (given ≡ print_chunked b) × (content ≡ data_of b.chunks)

pub gathers_stands : (a : At) (given content : List ℕ) → Gathers a given content → Stands a given
gathers_stands at.Line given content (front, each, g, d) = (front, each, g)
gathers_stands (at.Data n) given content (front, line, bytes, each, is, size, pos, g, d) = (front, line, bytes, each, is, size, pos, g)
gathers_stands at.LineEnd given content (front, line, bytes, each, is, size, pos, g, d) = (front, line, bytes, each, is, size, pos, g)
gathers_stands at.Trailer given content (front, line, each, is, zero, g, d) = (front, line, each, is, zero, g)
gathers_stands at.Done given content (b, is, g, d) = (b, is, g)

pub gathers_none : Gathers at.Line [] []
gathers_none = ([], All-nil IsChunk, refl, refl)

-- a body's front, with bytes behind it
behind : (f l b piece given : List ℕ) → given ≡ f ++ (l ++ b) → given ++ piece ≡ f ++ (l ++ (b ++ piece))
behind f l b piece given is =
    ap (λ (x : List ℕ). x ++ piece) is ∙ (append_assoc f (l ++ b) piece ∙ ap (λ (x : List ℕ). f ++ x) (append_assoc l b piece))

above : (n : ℕ) → (n ≡ 0 → ⊥) → 0 < n
above n not = grind (arith, not)

line_on : (front : List Chunk) (line : ChunkLine) (given piece content : List ℕ) (t : Bool) → All IsChunk front → IsSizeLine line → given ≡ flat_map print_chunk front → piece ≡ print_chunk_line line
    → content ≡ data_of front → (chunk_size line == 0) ≡ t → Gathers (if t then at.Trailer else at.Data (chunk_size line)) (given ++ piece) (content ++ [])
line_on front line given piece content true each is g p d zero = (
  front,
  line,
  each,
  is,
  eqb-true (chunk_size line) 0 zero,
  ap (λ (x : List ℕ). x ++ piece) g ∙ ap (λ (x : List ℕ). flat_map print_chunk front ++ x) p,
  append-nil content ∙ d,
)
line_on front line given piece content false each is g p d some = (
  front,
  line,
  [],
  each,
  is,
  omega arith,
  above (chunk_size line) (eqb-false (chunk_size line) 0 some),
  ap (λ (x : List ℕ). x ++ piece) g ∙ ap (λ (x : List ℕ). flat_map print_chunk front ++ x) (p ∙ sym (append-nil (print_chunk_line line))),
  ap (λ (x : List ℕ). x ++ []) d,
)

more_data : (content front bytes piece : List ℕ) → content ≡ front ++ bytes → content ++ piece ≡ front ++ (bytes ++ piece)
more_data content front bytes piece d = ap (λ (x : List ℕ). x ++ piece) d ∙ append_assoc front bytes piece

data_on : (front : List Chunk) (line : ChunkLine) (bytes given piece content : List ℕ) (m : ℕ) (t : Bool) → All IsChunk front → IsSizeLine line → chunk_size line ≡ length bytes + m
    → given ≡ flat_map print_chunk front ++ (print_chunk_line line ++ bytes) → content ≡ data_of front ++ bytes → 0 < length piece → length piece ≤ m
    → (m - length piece == 0) ≡ t → Gathers (if t then at.LineEnd else at.Data (m - length piece)) (given ++ piece) (content ++ piece)
data_on front line bytes given piece content m true each is size g d some le none = (
  front,
  line,
  bytes ++ piece,
  each,
  is,
  omega (arith, size, le, eqb-true (m - length piece) 0 none, length-append bytes piece),
  omega (arith, some, length-append bytes piece),
  behind (flat_map print_chunk front) (print_chunk_line line) bytes piece given g,
  more_data content (data_of front) bytes piece d,
)
data_on front line bytes given piece content m false each is size g d some le more = (
  front,
  line,
  bytes ++ piece,
  each,
  is,
  omega (arith, size, le, length-append bytes piece),
  above (m - length piece) (eqb-false (m - length piece) 0 more),
  behind (flat_map print_chunk front) (print_chunk_line line) bytes piece given g,
  more_data content (data_of front) bytes piece d,
)

one_more : (front : List Chunk) (c : Chunk) → data_of (front ++ c ∷ []) ≡ data_of front ++ c.bytes
one_more front c = flat_map-append (λ (c : Chunk). c.bytes) front (c ∷ []) ∙ ap (λ (x : List ℕ). data_of front ++ x) (append-nil c.bytes)

-- a part leads on, and adds its data
pub gathers_on : (a : At) (given content piece : List ℕ) (next : At) → Gathers a given content → IsNext a piece next → Gathers next (given ++ piece) (content ++ data_part a piece)
gathers_on at.Line given content piece next (front, each, g, d) (line, is, p, to) =
    subst (λ (x : At). Gathers x (given ++ piece) (content ++ [])) (sym to) (line_on front line given piece content (chunk_size line == 0) each is g p d refl)
gathers_on (at.Data m) given content piece next (front, line, bytes, each, is, size, pos, g, d) (some, le, to) =
    subst (λ (x : At). Gathers x (given ++ piece) (content ++ piece)) (sym to)
    (data_on front line bytes given piece content m (m - length piece == 0) each is size g d some le refl)
gathers_on at.LineEnd given content piece next (front, line, bytes, each, is, size, pos, g, d) (p, to) =
    let c : Chunk = record { line = line; bytes = bytes } in
    subst (λ (x : At). Gathers x (given ++ piece) (content ++ [])) (sym to) (
      front ++ c ∷ [],
      All-append IsChunk front (c ∷ []) each (All-cons IsChunk c [] (record { line = is; size = size; some = pos }) (All-nil IsChunk)),
      behind (flat_map print_chunk front) (print_chunk_line line) bytes piece given g
          ∙ (ap (λ (x : List ℕ). flat_map print_chunk front ++ (print_chunk_line line ++ (bytes ++ x))) p
          ∙ (ap (λ (x : List ℕ). flat_map print_chunk front ++ x) (sym (append-nil (print_chunk c))) ∙ sym (flat_map-append print_chunk front (c ∷ [])))),
      append-nil content ∙ (d ∙ sym (one_more front c)),
    )
gathers_on at.Trailer given content piece next (front, line, each, is, zero, g, d) (fields, ending, all, p, short, to) =
    subst (λ (x : At). Gathers x (given ++ piece) (content ++ [])) (sym to) (
      record { chunks = front; trailer = record { line = line; fields = fields; last = ending } },
      record { chunks = each; trailer = record { line = is; zero = zero; fields = all; size = omega (arith, short, ap length p) } },
      ap (λ (x : List ℕ). x ++ piece) g
          ∙ (append_assoc (flat_map print_chunk front) (print_chunk_line line) piece
          ∙ ap (λ (x : List ℕ). flat_map print_chunk front ++ (print_chunk_line line ++ x)) p),
      append-nil content ∙ d,
    )
gathers_on at.Done given content piece next stands part = absurd part

pub gathers_at : (a : At) (given content : List ℕ) → Gathers a given content → is_done a ≡ false → IsAt a
gathers_at a given content is not = is_at a given (gathers_stands a given content is) not

-- ---- what stands next

pub whole_step : (a : At) (rest window : List ℕ) (n : ℕ) (next : At) → window ≡ take 16384 rest → IsPart a window (Whole n next) → IsStep a rest (Some (n, next))
whole_step a rest window n next is (fits, some, part) = (
  omega (arith, fits, ap length is, length-take 16384 rest),
  some,
  subst (λ (x : List ℕ). IsNext a x next) (ap (take n) is ∙ take-take n 16384 rest (omega (arith, fits, ap length is, length-take 16384 rest))) part,
)

pub open_step : (a : At) (rest window : List ℕ) → window ≡ take 16384 rest → IsPart a window Open → IsStep a rest None
open_step a rest window is (short, part) given stands =
    open_none a given rest stands (subst (IsOpenPart a) (is ∙ take_all 16384 rest (omega (arith, short, ap length is, length-take 16384 rest))) part)

pub bad_step : (a : At) (rest window : List ℕ) → window ≡ take 16384 rest → IsPart a window Bad → IsStep a rest None
bad_step a rest window is part given stands =
    subst HasNoChunked
    (append_assoc given window (drop 16384 rest)
    ∙ ap (λ (x : List ℕ). given ++ x) (ap (λ (x : List ℕ). x ++ drop 16384 rest) is ∙ take-append-drop 16384 rest))
    (breaks_none (given ++ window) (drop 16384 rest) (breaks a given window stands part))

-- ---- the end

take_both : (n m : ℕ) (xs : List ℕ) → take (n + m) xs ≡ take n xs ++ take m (drop n xs)
take_both n m xs =
    sym (take-append-drop n (take (n + m) xs))
    ∙ (ap (λ (x : List ℕ). x ++ drop n (take (n + m) xs)) (take-take n (n + m) xs (omega arith)) ∙ ap (λ (x : List ℕ). take n xs ++ x) (drop-take n m xs))

pub gathers_then : (a next : At) (bytes content : List ℕ) (n m : ℕ) → Gathers a (take n bytes) content → IsNext a (take m (drop n bytes)) next
    → Gathers next (take (n + m) bytes) (content ++ data_part a (take m (drop n bytes)))
gathers_then a next bytes content n m is part =
    subst (λ (x : List ℕ). Gathers next x (content ++ data_part a (take m (drop n bytes)))) (sym (take_both n m bytes))
    (gathers_on a (take n bytes) content (take m (drop n bytes)) next is part)

done_data : (a : At) (given content : List ℕ) → Gathers a given content → is_done a ≡ true → (b : Chunked) × IsChunked b × (given ≡ print_chunked b) × (content ≡ data_of b.chunks)
done_data at.Line given content is done = absurd (false_true done)
  where
    false_true : false ≡ true → ⊥
    false_true e = cc
done_data (at.Data n) given content is done = absurd (false_true done)
  where
    false_true : false ≡ true → ⊥
    false_true e = cc
done_data at.LineEnd given content is done = absurd (false_true done)
  where
    false_true : false ≡ true → ⊥
    false_true e = cc
done_data at.Trailer given content is done = absurd (false_true done)
  where
    false_true : false ≡ true → ⊥
    false_true e = cc
done_data at.Done given content is done = is

-- all bytes are the body
pub data_whole : (a : At) (bytes content : List ℕ) (n : ℕ) → Gathers a (take n bytes) content → is_done a ≡ true → n ≡ length bytes → IsDataOf bytes (Some content)
data_whole a bytes content n is done all =
    let found = done_data a (take n bytes) content is done in
    (found.0, found.1, sym (take_all n bytes (omega (arith, all))) ∙ found.2, found.3)

trailing : (t u : Trailer) (rest : List ℕ) → IsTrailer t → IsTrailer u → Leads u (print_trailer t ++ rest) [] → rest ≡ []
trailing t u rest is isu (chunk d x isd whole) =
    absurd (not_last d.line t.line (d.bytes ++ (13 ∷ 10 ∷ [] ++ x)) (print_section t.fields t.last ++ rest) isd.line is.line
    (sym whole ∙ append_assoc (print_chunk_line t.line) (print_section t.fields t.last) rest) (omega (arith, isd.size, isd.some)) is.zero)
trailing t u rest is isu (last whole) =
    let same = same_line t.line u.line (print_section t.fields t.last ++ rest) (print_section u.fields u.last ++ []) is.line isu.line
    (sym (append_assoc (print_chunk_line t.line) (print_section t.fields t.last) rest) ∙ whole) in
    (section_unique (print_section t.fields t.last ++ rest) t.fields u.fields t.last u.last rest [] (is.fields, refl) (isu.fields, same.1)).2

-- bytes behind a whole body are no part of one
nothing_behind : (b c : Chunked) (rest : List ℕ) → IsChunked b → IsChunked c → print_chunked b ++ rest ≡ print_chunked c → rest ≡ []
nothing_behind b c rest is isc whole =
    trailing b.trailer c.trailer rest is.trailer isc.trailer
    (leads b.chunks (flat_map print_chunk b.chunks) (print_trailer b.trailer ++ rest) c [] is.chunks isc refl
    (sym (append_assoc (flat_map print_chunk b.chunks) (print_trailer b.trailer) rest) ∙ (whole ∙ sym (append-nil (print_chunked c)))))

pub data_behind : (a : At) (bytes content : List ℕ) (n : ℕ) → Gathers a (take n bytes) content → is_done a ≡ true → n < length bytes → IsDataOf bytes None
data_behind a bytes content n is done more c isc whole =
    let found = done_data a (take n bytes) content is done in
    let none = nothing_behind found.0 c (drop n bytes) found.1 isc
    (ap (λ (x : List ℕ). x ++ drop n bytes) (sym found.2) ∙ (take-append-drop n bytes ∙ whole)) in
    omega (arith, more, ap length none, length-drop n bytes)

pub no_data : (a : At) (bytes content : List ℕ) (n : ℕ) → Gathers a (take n bytes) content
    → ((given : List ℕ) → Stands a given → HasNoChunked (given ++ drop n bytes)) → IsDataOf bytes None
no_data a bytes content n is never c isc whole =
    never (take n bytes) (gathers_stands a (take n bytes) content is) c [] isc
    (take-append-drop n bytes ∙ (whole ∙ sym (append-nil (print_chunked c))))

-- ---- the same bytes have the same data

chunk_front : (c : Chunk) (x : List ℕ) → print_chunk c ++ x ≡ print_chunk_line c.line ++ (c.bytes ++ (13 ∷ 10 ∷ [] ++ x))
chunk_front c x = append_assoc (print_chunk_line c.line) (c.bytes ++ 13 ∷ 10 ∷ []) x ∙ ap (λ (r : List ℕ). print_chunk_line c.line ++ r) (append_assoc c.bytes (13 ∷ 10 ∷ []) x)

same_chunk : (c d : Chunk) (x y : List ℕ) → IsChunk c → IsChunk d → print_chunk c ++ x ≡ print_chunk d ++ y → (c.bytes ≡ d.bytes) × (x ≡ y)
same_chunk c d x y isc isd is =
    let lines = same_line c.line d.line (c.bytes ++ (13 ∷ 10 ∷ [] ++ x)) (d.bytes ++ (13 ∷ 10 ∷ [] ++ y)) isc.line isd.line (sym (chunk_front c x) ∙ (is ∙ chunk_front d y)) in
    let bytes = same_front c.bytes d.bytes (13 ∷ 10 ∷ [] ++ x) (13 ∷ 10 ∷ [] ++ y) (omega (arith, isc.size, isd.size, ap chunk_size lines.0)) lines.1 in
    (bytes.0, (same_front (13 ∷ 10 ∷ []) (13 ∷ 10 ∷ []) x y refl bytes.1).1)

-- a chunk stands where a trailer does
no_chunk : (t : Trailer) (c : Chunk) (rest : List ℕ) → IsTrailer t → IsChunk c → print_trailer t ≡ print_chunk c ++ rest → ⊥
no_chunk t c rest is isc same =
    not_last c.line t.line (c.bytes ++ (13 ∷ 10 ∷ [] ++ rest)) (print_section t.fields t.last) isc.line is.line
    (sym (chunk_front c rest) ∙ sym same) (omega (arith, isc.size, isc.some)) is.zero

same_data : (xs ys : List Chunk) (t u : Trailer) → All IsChunk xs → All IsChunk ys → IsTrailer t → IsTrailer u
    → flat_map print_chunk xs ++ print_trailer t ≡ flat_map print_chunk ys ++ print_trailer u → data_of xs ≡ data_of ys
same_data [] [] t u xall yall ist isu is = refl
same_data [] (d ∷ ys) t u xall yall ist isu is =
    absurd (no_chunk t d (flat_map print_chunk ys ++ print_trailer u) ist (All-head IsChunk d ys yall)
    (is ∙ append_assoc (print_chunk d) (flat_map print_chunk ys) (print_trailer u)))
same_data (c ∷ xs) [] t u xall yall ist isu is =
    absurd (no_chunk u c (flat_map print_chunk xs ++ print_trailer t) isu (All-head IsChunk c xs xall)
    (sym is ∙ append_assoc (print_chunk c) (flat_map print_chunk xs) (print_trailer t)))
same_data (c ∷ xs) (d ∷ ys) t u xall yall ist isu is =
    let one = same_chunk c d (flat_map print_chunk xs ++ print_trailer t) (flat_map print_chunk ys ++ print_trailer u) (All-head IsChunk c xs xall) (All-head IsChunk d ys yall)
    (sym (append_assoc (print_chunk c) (flat_map print_chunk xs) (print_trailer t)) ∙ (is ∙ append_assoc (print_chunk d) (flat_map print_chunk ys) (print_trailer u))) in
    let more = same_data xs ys t u (All-tail IsChunk c xs xall) (All-tail IsChunk d ys yall) ist isu one.1 in
    ap (λ (x : List ℕ). x ++ data_of xs) one.0 ∙ ap (λ (x : List ℕ). d.bytes ++ x) more

pub one_body : (b c : Chunked) → IsChunked b → IsChunked c → print_chunked b ≡ print_chunked c → data_of b.chunks ≡ data_of c.chunks
one_body b c isb isc is = same_data b.chunks c.chunks b.trailer c.trailer isb.chunks isc.chunks isb.trailer isc.trailer is
