-- A part leads on in a chunked body, and what stands in a part's place breaks it.
use Rattle.std.proofs.Common.{◌≡◌, ◌==◌, ◌<◌, ◌≤◌, ◌+◌, ◌-◌, ℕ, Bool, true, false, if◌then◌else◌, None, List, [], ◌∷◌, ◌++◌, length, replicate, refl, sym, ap, ◌∙◌, subst, inl, inr, append_assoc, length-append, arith, All}
use Rattle.std.specs.List.{flat_map}
use Rattle.std.specs.Char.{is_ascii_hexdigit}
use Rattle.std.proofs.lemmas.List.{append-nil, length-replicate}
use Rattle.std.proofs.lemmas.Bool.{eqb-true, eqb-false}
use Rattle.std.proofs.lemmas.Grind.{flat_map-append}
use Rattle.std.proofs.lemmas.List.Elements.{All-nil, All-cons, All-append}
use Rattle.httparse.specs.Grammar.{ChunkLine, chunk_size, print_chunk_line, crlf, IsField}
use Rattle.chunk_parts.specs.declared.parts.At.{At}
use Rattle.chunk_parts.specs.declared.parts.At.TheVariants as at
use Rattle.chunk_parts.specs.Chunks.{IsSizeLine, Chunk, print_chunk, IsChunk, BreaksChunks, BeginsChunked}
use Rattle.chunk_parts.specs.Parts.{IsNext, IsBadPart, Stands}

-- a body's front, with bytes behind it
behind : (f l b piece given : List ℕ) → given ≡ f ++ (l ++ b) → given ++ piece ≡ f ++ (l ++ (b ++ piece))
behind f l b piece given is =
    ap (λ (x : List ℕ). x ++ piece) is ∙ (append_assoc f (l ++ b) piece ∙ ap (λ (x : List ℕ). f ++ x) (append_assoc l b piece))

line_on : (front : List Chunk) (line : ChunkLine) (given piece : List ℕ) (t : Bool) → All IsChunk front → IsSizeLine line → given ≡ flat_map print_chunk front → piece ≡ print_chunk_line line
    → (chunk_size line == 0) ≡ t → Stands (if t then at.Trailer else at.Data (chunk_size line)) (given ++ piece)
line_on front line given piece true each is g p zero = (
  front,
  line,
  each,
  is,
  eqb-true (chunk_size line) 0 zero,
  ap (λ (x : List ℕ). x ++ piece) g ∙ ap (λ (x : List ℕ). flat_map print_chunk front ++ x) p,
)
line_on front line given piece false each is g p some = (
  front,
  line,
  [],
  each,
  is,
  omega arith,
  above (chunk_size line) (eqb-false (chunk_size line) 0 some),
  ap (λ (x : List ℕ). x ++ piece) g ∙ ap (λ (x : List ℕ). flat_map print_chunk front ++ x) (p ∙ sym (append-nil (print_chunk_line line))),
)
  where
    above : (n : ℕ) → (n ≡ 0 → ⊥) → 0 < n
    above n not = grind (arith, not)

data_on : (front : List Chunk) (line : ChunkLine) (bytes given piece : List ℕ) (m : ℕ) (t : Bool) → All IsChunk front → IsSizeLine line → chunk_size line ≡ length bytes + m
    → given ≡ flat_map print_chunk front ++ (print_chunk_line line ++ bytes) → 0 < length piece → length piece ≤ m
    → (m - length piece == 0) ≡ t → Stands (if t then at.LineEnd else at.Data (m - length piece)) (given ++ piece)
data_on front line bytes given piece m true each is size g some le none = (
  front,
  line,
  bytes ++ piece,
  each,
  is,
  omega (arith, size, le, eqb-true (m - length piece) 0 none, length-append bytes piece),
  omega (arith, some, length-append bytes piece),
  behind (flat_map print_chunk front) (print_chunk_line line) bytes piece given g,
)
data_on front line bytes given piece m false each is size g some le more = (
  front,
  line,
  bytes ++ piece,
  each,
  is,
  omega (arith, size, le, length-append bytes piece),
  above (m - length piece) (eqb-false (m - length piece) 0 more),
  behind (flat_map print_chunk front) (print_chunk_line line) bytes piece given g,
)
  where
    above : (n : ℕ) → (n ≡ 0 → ⊥) → 0 < n
    above n not = grind (arith, not)

-- a part leads on
pub stands_on : (a : At) (given piece : List ℕ) (next : At) → Stands a given → IsNext a piece next → Stands next (given ++ piece)
stands_on at.Line given piece next (front, each, g) (line, is, p, to) =
    subst (λ (x : At). Stands x (given ++ piece)) (sym to) (line_on front line given piece (chunk_size line == 0) each is g p refl)
stands_on (at.Data m) given piece next (front, line, bytes, each, is, size, pos, g) (some, le, to) =
    subst (λ (x : At). Stands x (given ++ piece)) (sym to) (data_on front line bytes given piece m (m - length piece == 0) each is size g some le refl)
stands_on at.LineEnd given piece next (front, line, bytes, each, is, size, pos, g) (p, to) =
    let c : Chunk = record { line = line; bytes = bytes } in
    subst (λ (x : At). Stands x (given ++ piece)) (sym to) (
      front ++ c ∷ [],
      All-append IsChunk front (c ∷ []) each (All-cons IsChunk c [] (record { line = is; size = size; some = pos }) (All-nil IsChunk)),
      behind (flat_map print_chunk front) (print_chunk_line line) bytes piece given g
          ∙ (ap (λ (x : List ℕ). flat_map print_chunk front ++ (print_chunk_line line ++ (bytes ++ x))) p
          ∙ (ap (λ (x : List ℕ). flat_map print_chunk front ++ x) (sym (append-nil (print_chunk c))) ∙ sym (flat_map-append print_chunk front (c ∷ [])))),
    )
stands_on at.Trailer given piece next (front, line, each, is, zero, g) (fields, last, all, p, short, to) =
    subst (λ (x : At). Stands x (given ++ piece)) (sym to) (
      record { chunks = front; trailer = record { line = line; fields = fields; last = last } },
      record { chunks = each; trailer = record { line = is; zero = zero; fields = all; size = omega (arith, short, ap length p) } },
      ap (λ (x : List ℕ). x ++ piece) g
          ∙ (append_assoc (flat_map print_chunk front) (print_chunk_line line) piece
          ∙ ap (λ (x : List ℕ). flat_map print_chunk front ++ (print_chunk_line line ++ x)) p),
    )
stands_on at.Done given piece next stands part = absurd part

-- bytes in a part's place that are none
pub breaks : (a : At) (given rest : List ℕ) → Stands a given → IsBadPart a rest → BreaksChunks (given ++ rest)
breaks at.Line given rest (front, each, g) bad = (front, rest, each, ap (λ (x : List ℕ). x ++ rest) g, inl bad)
breaks (at.Data m) given rest stands bad = absurd bad
breaks at.LineEnd given rest (front, line, bytes, each, is, size, pos, g) bad = (
  front,
  print_chunk_line line ++ (bytes ++ rest),
  each,
  behind (flat_map print_chunk front) (print_chunk_line line) bytes rest given g,
  inr (line, bytes ++ rest, is, refl, inl (bytes, rest, omega (arith, size, pos), sym size, refl, bad)),
)
breaks at.Trailer given rest (front, line, each, is, zero, g) bad = (
  front,
  print_chunk_line line ++ rest,
  each,
  ap (λ (x : List ℕ). x ++ rest) g ∙ append_assoc (flat_map print_chunk front) (print_chunk_line line) rest,
  inr (line, rest, is, refl, inr (zero, bad)),
)
breaks at.Done given rest stands bad = absurd bad

pub begins_front : (a b : List ℕ) → BeginsChunked (a ++ b) → BeginsChunked a
begins_front a b (body, more, is, whole) = (body, b ++ more, is, whole ∙ append_assoc a b more)

zero_line : ChunkLine
zero_line = record { digits = 48 ∷ []; pad = []; extension = None }

begins_trailer : (given : List ℕ) → Stands at.Trailer given → BeginsChunked given
begins_trailer given stands =
    let end : List ℕ = 13 ∷ 10 ∷ [] in
    let done = stands_on at.Trailer given end at.Done stands ([], crlf, All-nil IsField, refl, omega arith, refl) in
    begins_front given end (done.0, [], done.1, sym done.2 ∙ sym (append-nil (given ++ end)))

begins_line : (given : List ℕ) → Stands at.Line given → BeginsChunked given
unfolding zero_line print_chunk_line
begins_line given stands =
    let short : length (print_chunk_line zero_line) ≤ 16384 = simp length-append (omega arith) in
    let line : IsSizeLine zero_line = record { short = short; valid = record { digits = (omega arith, omega arith, All-cons (λ (x : ℕ). is_ascii_hexdigit x ≡ true) 48 [] refl (All-nil (λ (x : ℕ). is_ascii_hexdigit x ≡ true))); pad = All-nil _; extension = tt } } in
    begins_front given (print_chunk_line zero_line) (begins_trailer (given ++ print_chunk_line zero_line)
    (stands_on at.Line given (print_chunk_line zero_line) at.Trailer stands (zero_line, line, refl, refl)))

begins_end : (given : List ℕ) → Stands at.LineEnd given → BeginsChunked given
begins_end given stands =
    begins_front given (13 ∷ 10 ∷ []) (begins_line (given ++ 13 ∷ 10 ∷ []) (stands_on at.LineEnd given (13 ∷ 10 ∷ []) at.Line stands (refl, refl)))

-- what stands is a front of a whole chunked body
pub begins : (a : At) (given : List ℕ) → Stands a given → BeginsChunked given
begins at.Line given stands = begins_line given stands
begins (at.Data m) given (front, line, bytes, each, is, size, pos, g) =
    let zeros : List ℕ = replicate m 0 in
    begins_front given zeros (begins_end (given ++ zeros) (
      front,
      line,
      bytes ++ zeros,
      each,
      is,
      omega (arith, size, length-append bytes zeros, length-replicate {A = ℕ} m 0),
      omega (arith, pos, length-append bytes zeros, length-replicate {A = ℕ} m 0),
      behind (flat_map print_chunk front) (print_chunk_line line) bytes zeros given g,
    ))
begins at.LineEnd given stands = begins_end given stands
begins at.Trailer given stands = begins_trailer given stands
begins at.Done given (b, is, g) = (b, [], is, sym g ∙ sym (append-nil given))
